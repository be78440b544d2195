-- What is reported of a command goes by its header, its slot and its outcome.
-- Assumes nothing.
use Rattle.std.proofs.Common.{Ok, Err, Option}
use mathlib.Core.Path.{◌≡◌, refl, ap, ◌∙◌}
use mathlib.Core.Bool.{Bool, true, false, ◌&&◌, or-true}
use mathlib.Core.List.{List}
use mathlib.Core.Logic.{inl, inr, ⊎_elim}
use Prim.Native.Nat.{ℕ, ◌≤◌, ◌<◌}
use native.Mathlib.Omega.{arith}
use lib.ListN.{length}
use borrow.Author.Tests.{le-leb, lt-leb}
use Rattle.command.specs.declared.header.Command.{Command}
use Rattle.command.specs.declared.frame.Frame.{Frame}
use Rattle.command.specs.Outcome.{Outcome, outcome_number, is_done}
use Rattle.command.specs.Flags.{irq_bit, emit_bit}
use Rattle.command.specs.Faults.{header_fault}
use Rattle.command.proofs.Outcomes.{number_done, fault_number-least}
use Rattle.work.specs.Checks.{slot_fault, check_of}
use Rattle.command.specs.Report.{done_or_from, emits, interrupts}
use Rattle.work.specs.Work.{Left, leaves, work_of}
use Rattle.work.specs.Perform.{or_else, fault_of, performed_of}
use Rattle.work.proofs.OutcomeRanges.{DoneOr, widen, header_range, slot_range, check_range, work_range}
use Rattle.work.proofs.Performs.{performed_fault, performed_has}

-- a fault hides the next; none lets it through
or_else_fault : (fault next : Outcome) → is_done fault ≡ false → or_else fault next ≡ fault
unfolding or_else
or_else_fault (Ok unit) next e = cc
or_else_fault (Err fault) next e = refl

or_else-next : (fault next : Outcome) → is_done fault ≡ true → or_else fault next ≡ next
unfolding or_else
or_else-next (Ok unit) next e = refl
or_else-next (Err fault) next e = cc

-- a fault that is not done is in its range
fault_range : (low high : ℕ) (o : Outcome) → DoneOr low high o → is_done o ≡ false → (low ≤ outcome_number o) × (outcome_number o ≤ high)
fault_range low high o (inl e) faulty = absurd (omega (arith, e, fault_number-least o faulty))
fault_range low high o (inr h) faulty = h

-- outcomes 0 and from `low` on, and those below it
from_holds : (low least most : ℕ) (o : Outcome) → low ≤ least → DoneOr least most o → done_or_from low o ≡ true
from_holds low least most o h (inl e) = rw (number_done o e)
from_holds low least most o h (inr r) = rw (le-leb low (outcome_number o) (omega arith)) (or-true (is_done o))

from_fails : (low least most : ℕ) (o : Outcome) → 1 ≤ least → most < low → DoneOr least most o → is_done o ≡ false → done_or_from low o ≡ false
from_fails low least most o h below range faulty =
    let r = fault_range least most o range faulty in
    rw (faulty, lt-leb low (outcome_number o) (omega arith))

module _ (c : Command) (full : Bool) (ring window : List ℕ) (frame : Option Frame) (pack pipe : List ℕ) (limit : ℕ) where
  abbrev left : Left
  left = performed_of c full ring window frame pack pipe limit

  abbrev outcome : Outcome
  outcome = left.performed.outcome

  abbrev fault : Outcome
  fault = fault_of c full (length window) frame pack

  only : (o : Outcome) → fault ≡ o → is_done o ≡ false → left ≡ leaves o frame window pipe
  only o same faulty = rw (← same) (performed_fault c full ring window frame pack pipe limit (rw same faulty))

  -- a header fault needs no slot, and no work is done
  pub header_faulty : is_done (header_fault c) ≡ false → left ≡ leaves (header_fault c) frame window pipe
  unfolding fault_of
  header_faulty faulty = only (header_fault c) (or_else_fault _ _ faulty) faulty

  -- nor is any done for a full slot
  pub slot_full : is_done (header_fault c) ≡ true → is_done (slot_fault c full) ≡ false → left ≡ leaves (slot_fault c full) frame window pipe
  unfolding fault_of
  slot_full fine faulty = only (slot_fault c full) (or_else-next _ _ fine ∙ or_else_fault _ _ faulty) faulty

  pub header-outcome : is_done (header_fault c) ≡ false → outcome ≡ header_fault c
  unfolding leaves
  header-outcome faulty = ap (λ l. l.performed.outcome) (header_faulty faulty)

  pub slot-outcome : is_done (header_fault c) ≡ true → is_done (slot_fault c full) ≡ false → outcome ≡ slot_fault c full
  unfolding leaves
  slot-outcome fine faulty = ap (λ l. l.performed.outcome) (slot_full fine faulty)

  -- else the outcome is 0 or one of 6 to 14
  pub checked_range : is_done (header_fault c) ≡ true → is_done (slot_fault c full) ≡ true → DoneOr 6 14 outcome
  unfolding leaves fault_of
  checked_range fine free =
      performed_has c full ring window frame pack pipe limit (λ l. DoneOr 6 14 l.performed.outcome)
      (λ e. widen 11 14 (work_of c ring window frame pack pipe limit).performed.outcome (omega arith) (omega arith) (work_range c ring window frame pack pipe limit))
      (λ e. rw (or_else-next (header_fault c) _ fine, or_else-next (slot_fault c full) _ free) (widen 6 10 (check_of c (length window) frame pack) (omega arith) (omega arith) (check_range c (length window) frame pack)))

  -- outcomes 1 to 10 change no memory, pipe or frame
  pub unchanged : 1 ≤ outcome_number outcome → outcome_number outcome ≤ 10
      → (left.window ≡ window) × (left.pipe ≡ pipe) × (left.performed.frame ≡ frame)
  unfolding leaves
  unchanged =
      performed_has c full ring window frame pack pipe limit
      (λ l. 1 ≤ outcome_number l.performed.outcome → outcome_number l.performed.outcome ≤ 10
      → (l.window ≡ window) × (l.pipe ≡ pipe) × (l.performed.frame ≡ frame))
      (λ e low high. absurd (⊎_elim (λ z. omega arith) (λ r. omega arith) (work_range c ring window frame pack pipe limit)))
      (λ e low high. (refl, refl, refl))

  -- a fence is emitted for an emit bit, no header fault and a slot that is not full
  pub emits_when : emits c outcome ≡ (emit_bit c.flags && (is_done (header_fault c) && is_done (slot_fault c full)))
  unfolding emits
  emits_when = ap (λ b. emit_bit c.flags && b) (go (is_done (header_fault c)) (is_done (slot_fault c full)) refl refl)
    where
      go : (h s : Bool) → is_done (header_fault c) ≡ h → is_done (slot_fault c full) ≡ s → done_or_from 6 outcome ≡ (h && s)
      go false s eh es = rw (header-outcome eh) (from_fails 6 1 4 (header_fault c) (omega arith) (omega arith) (header_range c) eh)
      go true false eh es = rw (slot-outcome eh es) (from_fails 6 5 5 (slot_fault c full) (omega arith) (omega arith) (slot_range c full) es)
      go true true eh es = from_holds 6 6 14 outcome (omega arith) (checked_range eh es)

  -- an IRQ is raised for its bit and no header fault
  pub interrupts_when : interrupts c outcome ≡ (irq_bit c.flags && is_done (header_fault c))
  unfolding interrupts
  interrupts_when = ap (λ b. irq_bit c.flags && b) (go (is_done (header_fault c)) (is_done (slot_fault c full)) refl refl)
    where
      go : (h s : Bool) → is_done (header_fault c) ≡ h → is_done (slot_fault c full) ≡ s → done_or_from 5 outcome ≡ h
      go false s eh es = rw (header-outcome eh) (from_fails 5 1 4 (header_fault c) (omega arith) (omega arith) (header_range c) eh)
      go true false eh es = rw (slot-outcome eh es) (from_holds 5 5 5 (slot_fault c full) (omega arith) (slot_range c full))
      go true true eh es = from_holds 5 6 14 outcome (omega arith) (checked_range eh es)
