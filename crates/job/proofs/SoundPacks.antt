-- Sections 6 and 7 of an accepted input are a sound kernel pack.
-- Assumes nothing.
use mathlib.Core.Path.{◌≡◌, refl, ap, ◌∙◌}
use mathlib.Core.Bool.{Bool, true, ◌&&◌, and-eq-true_iff}
use mathlib.Core.List.{List}
use Prim.Native.Nat.{ℕ, zero, suc, ◌+◌, ◌-◌, ◌*◌, ◌≤◌, ◌<◌}
use native.Mathlib.Omega.{arith}
use lib.ListN.{length, get_or}
use borrow.Author.Tests.{le-leb, eq-eqb}
use Rattle.memory.specs.Place.{word_at}
use Rattle.memory.specs.Window.{window_of}
use Rattle.memory.proofs.Window.{window_byte, window-length}
use Rattle.pack.specs.Kernels.{kernel_count, first_word, kernel_words, code_count, all_lie, sound_pack}
use Rattle.pack.specs.Kernels as pack
use Rattle.std.specs.Prelude.{Ok}
use Rattle.job.specs.declared.parts.Job.{Job}
use Rattle.job.specs.Section.{section_at}
use Rattle.job.specs.Sections.{sections_of, kernels_of, code_of}
use Rattle.words.specs.Choice.{all_below}
use Rattle.job.specs.Kernels.{has_word, lies_in_code}
use Rattle.job.specs.Parts.{bytes_of, job_of}
use Rattle.job.specs.Parse.{parts_of}
use Rattle.job.proofs.Accepted.{Checked, checked}

both : (a b : Bool) → a ≡ true → b ≡ true → (a && b) ≡ true
both a b ha hb = (and-eq-true_iff a b).1 (ha, hb)

-- a word of a part of the input is a word of the input
window-word : (start n : ℕ) (m : List ℕ) → start + n ≤ length m → (i : ℕ) → i + 4 ≤ n → word_at (window_of start n m) i ≡ word_at m (start + i)
unfolding word_at
window-word start n m fits i h =
    rw (window_byte start n m fits i (omega arith), byte 1 (omega arith), byte 2 (omega arith), byte 3 (omega arith))
  where
    byte : (k : ℕ) → k < 4 → get_or (window_of start n m) (i + k) 0 ≡ get_or m (start + i + k) 0
    byte k b =
        let place : start + (i + k) ≡ start + i + k = omega arith in
        window_byte start n m fits (i + k) (omega arith) ∙ ap (λ j. get_or m j 0) place

-- the bytes of K pairs and N words with their counts, from a place on
abbrev pack_at : List ℕ → ℕ → ℕ → ℕ → List ℕ
pack_at input at K N = window_of at (8 + 8 * K + 4 * N) input

module _ (input : List ℕ) (at K N : ℕ) (isK : word_at input at ≡ K) (isN : word_at input (at + 4 + 8 * K) ≡ N) (fits : at + (8 + 8 * K + 4 * N) ≤ length input) where
  word : (i j : ℕ) → i + 4 ≤ 8 + 8 * K + 4 * N → at + i ≡ j → word_at (pack_at input at K N) i ≡ word_at input j
  word i j h e = window-word at (8 + 8 * K + 4 * N) input fits i h ∙ ap (word_at input) e

  kernel_count_lem : kernel_count (pack_at input at K N) ≡ K
  unfolding kernel_count
  kernel_count_lem = word 0 at (omega arith) (omega arith) ∙ isK

  code_count_lem : code_count (pack_at input at K N) ≡ N
  unfolding code_count
  code_count_lem = rw kernel_count_lem (word (4 + 8 * K) (at + 4 + 8 * K) (omega arith) (omega arith) ∙ isN)

  lies : (k : ℕ) → k < K → has_word input (at + 4) k ≡ true → lies_in_code input (at + 4) N k ≡ true → pack.lies_in_code (pack_at input at K N) k ≡ true
  unfolding has_word lies_in_code pack.lies_in_code first_word kernel_words
  lies k b has inside =
      rw (word (4 + 8 * k) (at + 4 + 8 * k) (omega arith) (omega arith), word (4 + 8 * k + 4) (at + 4 + 8 * k + 4) (omega arith) (omega arith), code_count_lem)
      (both _ _ has inside)

  all_lie_lem : (n : ℕ) → n ≤ K → all_below (has_word input (at + 4)) n ≡ true → all_below (lies_in_code input (at + 4) N) n ≡ true → all_lie (pack_at input at K N) n ≡ true
  unfolding all_below
  all_lie_lem zero b has inside = refl
  all_lie_lem (suc n) b has inside =
      let h = (and-eq-true_iff (all_below (has_word input (at + 4)) n) (has_word input (at + 4) n)).0 has in
      let l = (and-eq-true_iff (all_below (lies_in_code input (at + 4) N) n) (lies_in_code input (at + 4) N n)).0 inside in
      both _ _ (all_lie_lem n (omega arith) h.0 l.0) (lies n (omega arith) h.1 l.1)

  sound : K ≤ 16 → N ≤ 16384 → all_below (has_word input (at + 4)) K ≡ true → all_below (lies_in_code input (at + 4) N) K ≡ true → sound_pack (pack_at input at K N) ≡ true
  unfolding sound_pack
  sound few small has inside =
      rw (kernel_count_lem, code_count_lem, window-length at (8 + 8 * K + 4 * N) input fits)
      (both _ _ (both _ _ (both _ _ (le-leb K 16 few) (le-leb N 16384 small)) (eq-eqb (8 + 8 * K + 4 * N) (8 + 8 * K + 4 * N) refl)) (all_lie_lem K (omega arith) has inside))

pack_sound : (input : List ℕ) → Checked input (sections_of input) → sound_pack (bytes_of input (job_of input (sections_of input)).pack) ≡ true
unfolding bytes_of job_of sections_of kernels_of code_of section_at
pack_sound input held =
    let at = (sections_of input).ring3.end in
    let K = (sections_of input).kernels.count in
    let N = (sections_of input).code.count in
    let size : (sections_of input).code.end - at ≡ 8 + 8 * K + 4 * N = omega arith in
    rw size (sound input at K N refl refl (omega (arith, held.code_end)) held.kernels held.code held.have_words held.lie_in_code)

-- the part of an accepted input that is handed on as its kernel pack
pub accepted_pack_sound : (input : List ℕ) (job : Job) → parts_of input ≡ Ok job → sound_pack (bytes_of input job.pack) ≡ true
accepted_pack_sound input job e = let h = checked input job e in rw h.1 (pack_sound input h.0)
