-- The outcomes and their numbers.
use Rattle.std.specs.Prelude.{ℕ, Bool, Result, Ok, Err, is_ok}
use Rattle.command.specs.declared.outcome.Fault.{Fault}
use Rattle.command.specs.declared.outcome.Fault.TheVariants.{UnknownOpcode, ReservedFlag, WrongPayloadBit, NoSuchSlot, SlotFull, Misaligned, NoFrame, OutsideTheWindow, BadFrame, BadDispatch, NotListed, OffTheKernel, AccessOutside, OutOfSteps}

-- done, or a fault
abbrev pub Outcome : Type 0
Outcome = Result Unit Fault

-- no fault
abbrev pub done : Outcome
done = Ok tt

-- the number of each fault
abbrev pub fault_number : Fault → ℕ
fault_number UnknownOpcode = 1
fault_number ReservedFlag = 2
fault_number WrongPayloadBit = 3
fault_number NoSuchSlot = 4
fault_number SlotFull = 5
fault_number Misaligned = 6
fault_number NoFrame = 7
fault_number OutsideTheWindow = 8
fault_number BadFrame = 9
fault_number BadDispatch = 10
fault_number NotListed = 11
fault_number OffTheKernel = 12
fault_number AccessOutside = 13
fault_number OutOfSteps = 14

-- the number of each outcome; 0 is done
abbrev pub outcome_number : Outcome → ℕ
outcome_number (Ok unit) = 0
outcome_number (Err fault) = fault_number fault

-- is the outcome 0
abbrev pub is_done : Outcome → Bool
is_done o = is_ok o
