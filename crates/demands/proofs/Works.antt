-- What the demands rest on of a command's work.
-- Assumes nothing.
use mathlib.Core.Path.{◌≡◌, refl, sym, ap, ◌∙◌}
use mathlib.Core.Bool.{Bool, true, false, ◌&&◌, cond}
use mathlib.Core.List.{List}
use mathlib.Core.Logic.{◌↔◌, inr, ⊎_elim}
use Prim.Native.Nat.{ℕ, ◌+◌, ◌*◌, ◌≤◌}
use native.Mathlib.Omega.{arith}
use lib.ListN.{length, get_or}
use lib.Dec.{eqb}
use borrow.Author.Tests.{eqb-true}
use Rattle.memory.proofs.Others.{transferred_other}
use Rattle.command.specs.declared.header.Command.{Command}
use Rattle.command.specs.declared.frame.Frame.{Frame}
use Rattle.command.specs.Flags.{emit_bit}
use Rattle.command.specs.Faults.{header_fault}
use Rattle.work.specs.Checks.{slot_fault}
use Rattle.command.specs.Outcome.{Outcome, done, outcome_number, is_done}
use Rattle.command.specs.declared.outcome.Fault.TheVariants.{SlotFull}
use Rattle.std.proofs.Common.{Option, Some, Err}
use Rattle.command.specs.Frame.{held_by}
use Rattle.command.proofs.Outcomes.{number_done}
use Rattle.command.specs.declared.opcode.Opcode.TheVariants.{ReadMem}
use Rattle.command.specs.Report.{emits, words_read}
use Rattle.work.specs.Work.{Left, leaves, ran_as, after_dispatch, dispatched_by}
use Rattle.work.specs.Perform.{fault_of, performed_of}
use Rattle.words.proofs.Choices.{both_left, both_right}
use Rattle.work.proofs.Performs.{performed_has}
use Rattle.work.proofs.Works.{work_has, work_set}
use Rattle.work.proofs.Kept.{performed_lengths}
use Rattle.work.proofs.OutcomeRanges.{header_range}
use Rattle.work.proofs.Reports.{header-outcome, slot-outcome, checked_range, emits_when}
use Rattle.state.specs.declared.edition.Edition.{Edition}
use Rattle.state.specs.declared.edition.Edition.TheVariants.{One, Two}
use Rattle.state.specs.Slots.{is_full}
use Rattle.demands.specs.EmitsAndWaits.{is_emitting}
use Rattle.demands.specs.Keeps.{PipeKept}
use Rattle.demands.specs.Reports.{SetsFrame}

-- in edition 1 a slot is full if it holds 4,294,967,295
pub full_1 : {edition : Edition} {slot : ℕ} → edition ≡ One → (is_full edition slot ≡ true) ↔ (slot ≡ 4294967295)
full_1 {edition} {slot} one = (
  λ full. let same : eqb slot 4294967295 ≡ true = rw one at full in eqb-true slot 4294967295 same,
  λ is. rw (one, is),
)

-- in edition 2 none is
pub free_2 : {edition : Edition} (slot : ℕ) → edition ≡ Two → is_full edition slot ≡ false
free_2 slot two = rw two

-- a full slot is a fault of a command with its emit bit set
full_faulty : (c : Command) (full : Bool) → emit_bit c.flags ≡ true → full ≡ true → is_done (slot_fault c full) ≡ false
unfolding slot_fault
full_faulty c full bit is = rw (bit, is)

-- any other slot is not
not_full : (b : Bool) → is_done (cond (b && false) (Err SlotFull) done) ≡ true
not_full true = refl
not_full false = refl

-- so such a fault is a full slot's, of a command with its emit bit set
slot_full : (c : Command) (full : Bool) → is_done (slot_fault c full) ≡ false → (emit_bit c.flags ≡ true) × (full ≡ true)
unfolding slot_fault
slot_full c full = go (emit_bit c.flags) full
  where
    go : (bit full : Bool) → is_done (cond (bit && full) (Err SlotFull) done) ≡ false → (bit ≡ true) × (full ≡ true)
    go true true e = (refl, refl)
    go true false e = absurd (grind arith)
    go false full e = absurd (grind arith)

free_fine : (c : Command) (full : Bool) → full ≡ false → is_done (slot_fault c full) ≡ true
unfolding slot_fault
free_fine c full free = rw free (not_full (emit_bit c.flags))

and_true : (b : Bool) → (b && true) ≡ b
and_true true = refl
and_true false = refl

-- what a READ_MEM reads
read_words : (c : Command) → c.opcode ≡ Some ReadMem → words_read c done ≡ c.len
unfolding words_read
read_words c e = rw e

module _ (c : Command) (full : Bool) (ring window : List ℕ) (frame : Option Frame) (pack pipe : List ℕ) (limit : ℕ) where
  abbrev work : Left
  work = performed_of c full ring window frame pack pipe limit

  abbrev outcome : Outcome
  outcome = work.performed.outcome

  -- a full slot is never added to
  pub full_slot_stays : emits c outcome ≡ true → full ≡ true → ⊥
  full_slot_stays e is =
      let on = sym (emits_when c full ring window frame pack pipe limit) ∙ e in
      let bit = both_left (emit_bit c.flags) (is_done (header_fault c) && is_done (slot_fault c full)) on in
      let fine = both_right (is_done (header_fault c)) (is_done (slot_fault c full)) (both_right (emit_bit c.flags) _ on) in
      let faulty = full_faulty c full bit is in
      let z : ◌≡◌ {A = ℕ} 0 1 = cc in omega arith

  -- unless its slot is full, a command adds to it exactly if it is one that emits
  pub emits_when_sound : full ≡ false → emits c outcome ≡ is_emitting c
  unfolding is_emitting
  emits_when_sound free =
      emits_when c full ring window frame pack pipe limit
      ∙ ap (λ s. emit_bit c.flags && (is_done (header_fault c) && s)) (free_fine c full free)
      ∙ ap (λ h. emit_bit c.flags && h) (and_true (is_done (header_fault c)))

  -- outcome 5 comes of a sound header and a faulty slot
  five_by_slot : outcome_number outcome ≡ 5 → (is_done (header_fault c) ≡ true) × (is_done (slot_fault c full) ≡ false)
  five_by_slot is = go (is_done (header_fault c)) refl (is_done (slot_fault c full)) refl
    where
      go : (header : Bool) → is_done (header_fault c) ≡ header → (slot : Bool) → is_done (slot_fault c full) ≡ slot
          → (is_done (header_fault c) ≡ true) × (is_done (slot_fault c full) ≡ false)
      go true fine false faulty = (fine, faulty)
      go true fine true free =
          absurd
          (⊎_elim (λ done. omega (arith, done, is)) (λ range. omega (arith, range.0, is))
          (checked_range c full ring window frame pack pipe limit fine free))
      go false faulty slot e =
          let named = ap outcome_number (header-outcome c full ring window frame pack pipe limit faulty) in
          absurd (⊎_elim (λ done. omega (arith, done, is, named)) (λ range. omega (arith, range.1, is, named)) (header_range c))

  -- so it is that of a command that emits to a full slot
  pub five_full : (outcome_number outcome ≡ 5) ↔ ((is_emitting c ≡ true) × (full ≡ true))
  unfolding is_emitting slot_fault
  five_full = (
    λ is.
        let by-slot = five_by_slot is in
        let held = slot_full c full by-slot.1 in
        (rw (held.0, by-slot.0), held.1),
    λ both.
        let bit = both_left (emit_bit c.flags) (is_done (header_fault c)) both.0 in
        let fine = both_right (emit_bit c.flags) (is_done (header_fault c)) both.0 in
        ap outcome_number (slot-outcome c full ring window frame pack pipe limit fine (full_faulty c full bit both.1)) ∙ rw (bit, both.1),
  )

  -- the window keeps its length
  pub window_stays : length work.window ≡ length window
  window_stays = (performed_lengths c full ring window frame pack pipe limit).0

  -- the pipe's bytes past the words read stay
  abbrev Rest : Left → Type 0
  Rest l = (i : ℕ) → 4 * words_read c l.performed.outcome ≤ i → get_or l.pipe i 0 ≡ get_or pipe i 0

  read_end : c.opcode ≡ Some ReadMem → (i : ℕ) → 4 * words_read c done ≤ i → 0 + 4 * c.len ≤ i
  read_end e i h = omega (arith, read_words c e)

  pub pipe_stays : PipeKept (words_read c outcome) pipe work.pipe
  unfolding leaves after_dispatch dispatched_by
  pipe_stays = record {
    long = (performed_lengths c full ring window frame pack pipe limit).1;
    rest =
        performed_has c full ring window frame pack pipe limit Rest
        (λ fine.
        work_has c ring window frame pack pipe limit Rest
        (λ e i h. refl)
        (λ e i h. transferred_other pipe i window c.arg0 0 (4 * c.len) (inr (read_end e i h)))
        (λ e i h. refl)
        (λ e i h. refl)
        (λ e i h. refl)
        (λ e i h. refl)
        (λ e i h. refl)
        (λ i h. refl))
        (λ faulty i h. refl);
  }

  -- a SET_FB with outcome 0 leaves the frame of its arguments
  pub frame-set : SetsFrame c (outcome_number outcome) → work.performed.frame ≡ Some (held_by c)
  unfolding leaves
  frame-set sets =
      performed_has c full ring window frame pack pipe limit
      (λ l. outcome_number l.performed.outcome ≡ 0 → l.performed.frame ≡ Some (held_by c))
      (λ fine zero. rw (work_set c ring window frame pack pipe limit sets.0))
      (λ faulty zero. cc (number_done (fault_of c full (length window) frame pack) zero))
      sets.1

  -- every other command leaves the frame as it was
  abbrev FrameKept : Left → Type 0
  FrameKept l = (SetsFrame c (outcome_number l.performed.outcome) → ⊥) → l.performed.frame ≡ frame

  pub frame-kept : FrameKept work
  unfolding leaves after_dispatch ran_as
  frame-kept =
      performed_has c full ring window frame pack pipe limit FrameKept
      (λ fine.
      work_has c ring window frame pack pipe limit FrameKept
      (λ e not. refl)
      (λ e not. refl)
      (λ e not. refl)
      (λ e not. refl)
      (λ e not. refl)
      (λ e not. refl)
      (λ e not. absurd (not (e, refl)))
      (λ not. refl))
      (λ faulty not. refl)
