-- What is known of an input that is accepted: every check held.
-- Assumes nothing.
use mathlib.Core.Path.{◌≡◌, refl}
use mathlib.Core.Bool.{Bool, true, false, ◌&&◌, and-eq-true_iff}
use mathlib.Core.List.{List}
use Prim.Native.Nat.{ℕ, ◌≤◌}
use native.Mathlib.Nat.{le_antisymm}
use lib.Dec.{leb, eqb}
use lib.ListN.{length}
use borrow.Author.Tests.{leb-true, eqb-true}
use Rattle.std.specs.Prelude.{Result, Ok}
use Rattle.job.specs.declared.fault.Fault.{Fault}
use Rattle.job.specs.declared.parts.Job.{Job}
use Rattle.job.specs.declared.section.Section.{Section}
use Rattle.job.specs.declared.sections.Sections.{Sections}
use Rattle.job.specs.Section.{is_whole}
use Rattle.job.specs.Sections.{sections_of}
use Rattle.words.specs.Choice.{all_below}
use Rattle.job.specs.Kernels.{has_word, lies_in_code}
use Rattle.job.specs.Checks.{windows_sound, kernels_sound, code_sound, memory_sound}
use Rattle.job.specs.Parts.{job_of}
use Rattle.job.specs.Parse.{unless, parts_of}

-- the checks of an input with these sections, as facts
pub record Checked (input : List ℕ) (sections : Sections) : Type 0 where
  pub short : length input ≤ 61440
  pub windows : sections.windows.count ≡ 4
  pub ring0 : sections.ring0.end ≤ length input
  pub ring1 : sections.ring1.end ≤ length input
  pub ring2 : sections.ring2.end ≤ length input
  pub ring3 : sections.ring3.end ≤ length input
  pub kernels : sections.kernels.count ≤ 16
  pub have_words : all_below (has_word input sections.kernels.start) sections.kernels.count ≡ true
  pub code : sections.code.count ≤ 16384
  pub lie_in_code : all_below (lies_in_code input sections.kernels.start sections.code.count) sections.kernels.count ≡ true
  pub code_end : sections.code.end ≤ length input
  pub memory : sections.memory.count ≤ 4096
  pub to_the_end : sections.memory.end ≡ length input

both : (a b : Bool) → (a && b) ≡ true → (a ≡ true) × (b ≡ true)
both a b = (and-eq-true_iff a b).0

-- a section that is there, with a count that is not too large
whole_and_few : (input : List ℕ) (section : Section) (most : ℕ) → (is_whole input section && leb section.count most) ≡ true
    → (section.end ≤ length input) × (section.count ≤ most)
whole_and_few input section most e =
    let h = both (is_whole input section) (leb section.count most) e in
    (leb-true _ _ h.0, leb-true _ _ h.1)

abbrev ok : Job → Result Job Fault
ok job = Ok job

-- past a check only if it held
past : (fault : Fault) (sound : Bool) (rest : Result Job Fault) {job : Job} → unless fault sound rest ≡ Ok job → (sound ≡ true) × (rest ≡ Ok job)
unfolding unless
past fault true rest e = (refl, e)
past fault false rest e = (cc, cc)

pub checked : (input : List ℕ) (job : Job) → parts_of input ≡ Ok job → Checked input (sections_of input) × (job ≡ job_of input (sections_of input))
unfolding parts_of windows_sound kernels_sound code_sound memory_sound
checked input job e =
    let s = sections_of input in
    let p0 = past _ _ _ e in
    let p1 = past _ _ _ p0.1 in
    let p2 = past _ _ _ p1.1 in
    let p3 = past _ _ _ p2.1 in
    let p4 = past _ _ _ p3.1 in
    let p5 = past _ _ _ p4.1 in
    let p6 = past _ _ _ p5.1 in
    let p7 = past _ _ _ p6.1 in
    let p8 = past _ _ _ p7.1 in
    let p9 = past _ _ _ p8.1 in
    let windows = both (is_whole input s.windows) (eqb s.windows.count 4) p1.0 in
    let kernels = both (is_whole input s.kernels && leb s.kernels.count 16) _ p6.0 in
    let code = both (is_whole input s.code && leb s.code.count 16384) _ p7.0 in
    let code-there = whole_and_few input s.code 16384 code.0 in
    let memory-there = whole_and_few input s.memory 4096 p8.0 in (
      record {
        short = leb-true _ _ p0.0;
        windows = eqb-true _ _ windows.1;
        ring0 = leb-true _ _ p2.0;
        ring1 = leb-true _ _ p3.0;
        ring2 = leb-true _ _ p4.0;
        ring3 = leb-true _ _ p5.0;
        kernels = (whole_and_few input s.kernels 16 kernels.0).1;
        have_words = kernels.1;
        code = code-there.1;
        lie_in_code = code.1;
        code_end = code-there.0;
        memory = memory-there.1;
        to_the_end = le_antisymm memory-there.0 (leb-true _ _ p9.0);
      },
      accepted_same p9.1,
    )
  where
    accepted_same : {a b : Job} → ok a ≡ ok b → b ≡ a
    accepted_same e = cc
