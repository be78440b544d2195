-- There are fifteen outcomes, and 0 is the one that is done.
-- Assumes nothing.
use Rattle.std.proofs.Common.{◌≡◌, ◌<◌, ◌≤◌, true, false, Ok, Err, refl, arith}
use Rattle.command.specs.declared.outcome.Fault.{Fault}
use Rattle.command.specs.Outcome.{Outcome, fault_number, outcome_number, is_done}

pub fault_within : (f : Fault) → (1 ≤ fault_number f) × (fault_number f ≤ 14)
fault_within Fault.UnknownOpcode = (omega arith, omega arith)
fault_within Fault.ReservedFlag = (omega arith, omega arith)
fault_within Fault.WrongPayloadBit = (omega arith, omega arith)
fault_within Fault.NoSuchSlot = (omega arith, omega arith)
fault_within Fault.SlotFull = (omega arith, omega arith)
fault_within Fault.Misaligned = (omega arith, omega arith)
fault_within Fault.NoFrame = (omega arith, omega arith)
fault_within Fault.OutsideTheWindow = (omega arith, omega arith)
fault_within Fault.BadFrame = (omega arith, omega arith)
fault_within Fault.BadDispatch = (omega arith, omega arith)
fault_within Fault.NotListed = (omega arith, omega arith)
fault_within Fault.OffTheKernel = (omega arith, omega arith)
fault_within Fault.AccessOutside = (omega arith, omega arith)
fault_within Fault.OutOfSteps = (omega arith, omega arith)

pub outcome_below : (o : Outcome) → outcome_number o < 15
outcome_below (Ok done) = omega arith
outcome_below (Err fault) = omega (arith, fault_within fault)

-- an outcome is done if its number is 0, and a fault if it is not
pub done_number : (o : Outcome) → is_done o ≡ true → outcome_number o ≡ 0
done_number (Ok done) e = refl
done_number (Err fault) e = cc

pub number_done : (o : Outcome) → outcome_number o ≡ 0 → is_done o ≡ true
number_done (Ok done) e = refl
number_done (Err fault) e = absurd (omega (arith, fault_within fault))

pub fault_number-least : (o : Outcome) → is_done o ≡ false → 1 ≤ outcome_number o
fault_number-least (Ok done) e = cc
fault_number-least (Err fault) e = (fault_within fault).0
