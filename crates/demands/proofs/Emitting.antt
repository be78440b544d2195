-- A command that emits or waits has one of the 64 slots.
-- Assumes nothing.
use mathlib.Core.Path.{◌≡◌, refl, sym, ◌∙◌}
use mathlib.Core.Bool.{Bool, true, false, ◌&&◌, ◌||◌, cond, or-true}
use mathlib.Core.List.{List}
use Prim.Native.Nat.{ℕ, ◌<◌}
use native.Mathlib.Omega.{arith}
use lib.Dec.{ltb}
use borrow.Author.Tests.{ltb-false}
use Rattle.command.specs.declared.header.Command.{Command}
use Rattle.command.specs.declared.frame.Frame.{Frame}
use Rattle.std.proofs.Common.{Option, Err}
use Rattle.command.specs.declared.outcome.Fault.TheVariants.{UnknownOpcode, ReservedFlag, WrongPayloadBit, NoSuchSlot}
use Rattle.command.specs.Faults.{unknown_opcode, wrong_payload_bit, no_such_slot, header_fault}
use Rattle.command.specs.Flags.{emit_bit, wait_bit, reserved_bit}
use Rattle.command.specs.Outcome.{done, is_done}
use Rattle.work.specs.Perform.{performed_of}
use Rattle.command.specs.Report.{emits}
use Rattle.words.proofs.Choices.{both_left, both_right, not_held}
use Rattle.demands.specs.EmitsAndWaits.{is_emitting, is_waiting}
use Rattle.demands.proofs.Works.{full_slot_stays, emits_when_sound}

-- no header fault: the slot's number is not too large
no_fault : (unknown reserved payload slot : Bool)
    → is_done (cond unknown (Err UnknownOpcode) (cond reserved (Err ReservedFlag) (cond payload (Err WrongPayloadBit) (cond slot (Err NoSuchSlot) done)))) ≡ true
    → slot ≡ false
no_fault true reserved payload slot e = cc
no_fault false true payload slot e = cc
no_fault false false true slot e = cc
no_fault false false false true e = cc
no_fault false false false false e = refl

fits : (asked : Bool) (rdst : ℕ) → asked ≡ true → (asked && ltb 63 rdst) ≡ false → rdst < 64
fits true rdst set e = omega (arith, ltb-false 63 rdst e)
fits false rdst set e = absurd (grind arith)

has_slot : (c : Command) → is_done (header_fault c) ≡ true → (emit_bit c.flags || wait_bit c.flags) ≡ true → c.rdst < 64
unfolding header_fault no_such_slot
has_slot c fine asked =
    fits (emit_bit c.flags || wait_bit c.flags) c.rdst asked
    (no_fault (unknown_opcode c) (reserved_bit c.flags) (wrong_payload_bit c) (no_such_slot c) fine)

pub emitting_slot : (c : Command) → is_emitting c ≡ true → c.rdst < 64
unfolding is_emitting
emitting_slot c e =
    has_slot c (both_right (emit_bit c.flags) (is_done (header_fault c)) e) (rw (both_left (emit_bit c.flags) (is_done (header_fault c)) e))

pub waiting_slot : (c : Command) → is_waiting c ≡ true → c.rdst < 64
unfolding is_waiting
waiting_slot c e =
    has_slot c (both_right (wait_bit c.flags) (is_done (header_fault c)) e)
    (rw (both_left (wait_bit c.flags) (is_done (header_fault c)) e) (or-true (emit_bit c.flags)))

-- so does a command that has added to its slot
pub emits_in_range : (c : Command) (full : Bool) (ring window : List ℕ) (frame : Option Frame) (pack pipe : List ℕ) (limit : ℕ)
    → emits c (performed_of c full ring window frame pack pipe limit).performed.outcome ≡ true → c.rdst < 64
emits_in_range c full ring window frame pack pipe limit e =
    let free = not_held full (full_slot_stays c full ring window frame pack pipe limit e) in
    emitting_slot c (sym (emits_when_sound c full ring window frame pack pipe limit free) ∙ e)
