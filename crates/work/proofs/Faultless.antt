-- What is known of a command without fault.
-- Assumes nothing.
use mathlib.Core.Path.{◌≡◌, refl}
use mathlib.Core.Bool.{Bool, true, false, cond}
use mathlib.Core.List.{List}
use Prim.Native.Nat.{ℕ}
use Rattle.std.proofs.Common.{Ok, Err, Option}
use Rattle.command.specs.declared.outcome.Fault.{Fault}
use Rattle.command.specs.declared.outcome.Fault.TheVariants.{UnknownOpcode, ReservedFlag, WrongPayloadBit, Misaligned, NoFrame, OutsideTheWindow}
use Rattle.command.specs.declared.header.Command.{Command}
use Rattle.command.specs.declared.frame.Frame.{Frame}
use Rattle.command.specs.Outcome.{Outcome, is_done}
use Rattle.command.specs.Flags.{payload_bit, reserved_bit}
use Rattle.command.specs.Table.{row_of}
use Rattle.command.specs.Faults.{unknown_opcode, wrong_payload_bit, header_fault}
use Rattle.work.specs.Checks.{slot_fault, misaligned, unframed, outside, check_of}
use Rattle.work.specs.Perform.{or_else, fault_of}
use Rattle.words.proofs.Choices.{same_tests}

-- a chain of faults that gives none: its first test does not hold, and the rest gives none
cond_done : (b : Bool) (fault : Fault) (rest : Outcome) → is_done (cond b (Err fault) rest) ≡ true → (b ≡ false) × (is_done rest ≡ true)
cond_done true fault rest e = cc
cond_done false fault rest e = (refl, e)

or_else_done : (fault next : Outcome) → is_done (or_else fault next) ≡ true → (is_done fault ≡ true) × (is_done next ≡ true)
unfolding or_else
or_else_done (Ok unit) next e = (refl, e)
or_else_done (Err fault) next e = cc

-- the payload bit is as in the table
pub payload_as_in_table : (c : Command) → is_done (header_fault c) ≡ true → payload_bit c.flags ≡ (row_of c.opcode).payload
unfolding header_fault wrong_payload_bit
payload_as_in_table c fine =
    let known = (cond_done (unknown_opcode c) UnknownOpcode _ fine).1 in
    let plain = (cond_done (reserved_bit c.flags) ReservedFlag _ known).1 in
    same_tests _ _ (cond_done (wrong_payload_bit c) WrongPayloadBit _ plain).0

-- a rectangle has a frame that is wide enough, and no byte is outside the window
pub framed_and_inside : (c : Command) (length : ℕ) (frame : Option Frame) (pack : List ℕ) → is_done (check_of c length frame pack) ≡ true
    → (unframed c frame ≡ false) × (outside c length frame ≡ false)
unfolding check_of
framed_and_inside c length frame pack fine =
    let aligned = (cond_done (misaligned c) Misaligned _ fine).1 in
    let framed = cond_done (unframed c frame) NoFrame _ aligned in
    (framed.0, (cond_done (outside c length frame) OutsideTheWindow _ framed.1).0)

module _ (c : Command) (full : Bool) (length : ℕ) (frame : Option Frame) (pack : List ℕ) (fine : is_done (fault_of c full length frame pack) ≡ true) where
  pub header_done : is_done (header_fault c) ≡ true
  unfolding fault_of
  header_done = (or_else_done (header_fault c) _ fine).0

  pub check_done : is_done (check_of c length frame pack) ≡ true
  unfolding fault_of
  check_done = (or_else_done (slot_fault c full) _ (or_else_done (header_fault c) _ fine).1).1
