-- Which outcomes the faults and the work give.
-- Assumes nothing.
use mathlib.Core.Bool.{Bool, true, false, cond, ◌&&◌}
use mathlib.Core.Path.{◌≡◌, refl}
use mathlib.Core.List.{List}
use mathlib.Core.Logic.{◌⊎◌, inl, inr}
use Prim.Native.Nat.{ℕ, ◌≤◌}
use native.Mathlib.Omega.{arith}
use lib.Dec.{lit≤}
use Rattle.std.proofs.Common.{Ok, Err, Option}
use Rattle.kernel.specs.declared.step.Stop.{Stop}
use Rattle.kernel.specs.declared.step.Stop.TheVariants.{NotListed, OffTheKernel, OutsideTheWindow as OffTheWindow, OutOfSteps}
use Rattle.std.specs.Prelude.{Result}
use Rattle.kernel.specs.declared.dispatch.ThreadStop.{ThreadStop}
use Rattle.command.specs.declared.outcome.Fault.TheVariants.{UnknownOpcode, ReservedFlag, WrongPayloadBit, NoSuchSlot, SlotFull, Misaligned, NoFrame, OutsideTheWindow, BadFrame, BadDispatch}
use Rattle.command.specs.declared.header.Command.{Command}
use Rattle.command.specs.declared.frame.Frame.{Frame}
use Rattle.command.specs.Outcome.{Outcome, done, fault_number, outcome_number}
use Rattle.command.specs.Flags.{emit_bit, reserved_bit}
use Rattle.command.specs.Faults.{unknown_opcode, wrong_payload_bit, no_such_slot, header_fault}
use Rattle.work.specs.Checks.{slot_fault, misaligned, unframed, outside, unfit_frame, unfit_dispatch, check_of}
use Rattle.work.specs.Work.{leaves, stop_outcome, ran_outcome, ran_as, after_dispatch, work_of}
use Rattle.work.specs.Perform.{or_else, fault_of}
use Rattle.work.proofs.Works.{work_has}

-- an outcome is done or one of low to high
abbrev pub DoneOr : ℕ → ℕ → Outcome → Type 0
DoneOr low high o = (outcome_number o ≡ 0) ⊎ ((low ≤ outcome_number o) × (outcome_number o ≤ high))

pub widen : (least most : ℕ) (o : Outcome) {low high : ℕ} → low ≤ least → most ≤ high → DoneOr least most o → DoneOr low high o
widen least most o l h (inl e) = inl e
widen least most o l h (inr r) = inr (omega arith)

pub header_range : (c : Command) → DoneOr 1 4 (header_fault c)
unfolding header_fault
header_range c = go (unknown_opcode c) (reserved_bit c.flags) (wrong_payload_bit c) (no_such_slot c)
  where
    go : (unknown reserved payload slot : Bool)
        → DoneOr 1 4 (cond unknown (Err UnknownOpcode) (cond reserved (Err ReservedFlag) (cond payload (Err WrongPayloadBit) (cond slot (Err NoSuchSlot) done))))
    go true reserved payload slot = inr (lit≤ tt, lit≤ tt)
    go false true payload slot = inr (lit≤ tt, lit≤ tt)
    go false false true slot = inr (lit≤ tt, lit≤ tt)
    go false false false true = inr (lit≤ tt, lit≤ tt)
    go false false false false = inl refl

pub slot_range : (c : Command) (full : Bool) → DoneOr 5 5 (slot_fault c full)
unfolding slot_fault
slot_range c full = go (emit_bit c.flags && full)
  where
    go : (b : Bool) → DoneOr 5 5 (cond b (Err SlotFull) done)
    go true = inr (lit≤ tt, lit≤ tt)
    go false = inl refl

pub check_range : (c : Command) (length : ℕ) (frame : Option Frame) (pack : List ℕ) → DoneOr 6 10 (check_of c length frame pack)
unfolding check_of
check_range c length frame pack =
    go (misaligned c) (unframed c frame) (outside c length frame) (unfit_frame c) (unfit_dispatch c pack)
  where
    go : (six seven eight nine ten : Bool)
        → DoneOr 6 10 (cond six (Err Misaligned) (cond seven (Err NoFrame) (cond eight (Err OutsideTheWindow) (cond nine (Err BadFrame) (cond ten (Err BadDispatch) done)))))
    go true seven eight nine ten = inr (lit≤ tt, lit≤ tt)
    go false true eight nine ten = inr (lit≤ tt, lit≤ tt)
    go false false true nine ten = inr (lit≤ tt, lit≤ tt)
    go false false false true ten = inr (lit≤ tt, lit≤ tt)
    go false false false false true = inr (lit≤ tt, lit≤ tt)
    go false false false false false = inl refl

or_else_range : (low high : ℕ) (fault next : Outcome) → DoneOr low high fault → DoneOr low high next → DoneOr low high (or_else fault next)
unfolding or_else
or_else_range low high (Ok unit) next f n = n
or_else_range low high (Err fault) next f n = f

-- the faults before the work are 1 to 10
pub faults_range : (c : Command) (full : Bool) (length : ℕ) (frame : Option Frame) (pack : List ℕ) → DoneOr 1 10 (fault_of c full length frame pack)
unfolding fault_of
faults_range c full length frame pack =
    or_else_range 1 10 (header_fault c) _ (widen 1 4 (header_fault c) (omega arith) (omega arith) (header_range c))
    (or_else_range 1 10 (slot_fault c full) (check_of c length frame pack) (widen 5 5 (slot_fault c full) (omega arith) (omega arith) (slot_range c full))
    (widen 6 10 (check_of c length frame pack) (omega arith) (omega arith) (check_range c length frame pack)))

pub stop_range : (why : Stop) → (11 ≤ fault_number (stop_outcome why)) × (fault_number (stop_outcome why) ≤ 14)
unfolding stop_outcome
stop_range NotListed = (lit≤ tt, lit≤ tt)
stop_range OffTheKernel = (lit≤ tt, lit≤ tt)
stop_range (OffTheWindow first) = (lit≤ tt, lit≤ tt)
stop_range OutOfSteps = (lit≤ tt, lit≤ tt)

pub ran_range : (r : Result Unit ThreadStop) → DoneOr 11 14 (ran_outcome r)
unfolding ran_outcome
ran_range (Ok u) = inl refl
ran_range (Err stop) = inr (stop_range stop.why)

pub work_range : (c : Command) (ring window : List ℕ) (frame : Option Frame) (pack pipe : List ℕ) (limit : ℕ)
    → DoneOr 11 14 (work_of c ring window frame pack pipe limit).performed.outcome
unfolding leaves after_dispatch ran_as
work_range c ring window frame pack pipe limit =
    work_has c ring window frame pack pipe limit (λ l. DoneOr 11 14 l.performed.outcome)
    (λ e. inl refl) (λ e. inl refl) (λ e. inl refl) (λ e. inl refl) (λ e. ran_range _) (λ e. inl refl) (λ e. inl refl) (inl refl)
