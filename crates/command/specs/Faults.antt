-- Header faults, outcomes 1 to 4.
use Rattle.std.specs.Prelude.{Bool, is_none, ◌&&◌, ◌||◌, cond, ltb, Err}
use Rattle.words.specs.Choice.{differ}
use Rattle.command.specs.declared.outcome.Fault.TheVariants.{UnknownOpcode, ReservedFlag, WrongPayloadBit, NoSuchSlot}
use Rattle.command.specs.declared.header.Command.{Command}
use Rattle.command.specs.Outcome.{Outcome, done}
use Rattle.command.specs.Flags.{emit_bit, wait_bit, payload_bit, reserved_bit}
use Rattle.command.specs.Table.{row_of}

-- 1: opcode not in the table
unfoldable pub unknown_opcode : Command → Bool
unknown_opcode c = is_none c.opcode

-- 3: payload bit not as in the table
unfoldable pub wrong_payload_bit : Command → Bool
wrong_payload_bit c = differ (payload_bit c.flags) (row_of c.opcode).payload

-- 4: emit or wait set and rdst above 63
unfoldable pub no_such_slot : Command → Bool
no_such_slot c = (emit_bit c.flags || wait_bit c.flags) && ltb 63 c.rdst

-- the smallest of 1 to 4 that applies; 2 is a reserved flag
unfoldable pub header_fault : Command → Outcome
header_fault c =
    cond (unknown_opcode c) (Err UnknownOpcode)
    (cond (reserved_bit c.flags) (Err ReservedFlag)
    (cond (wrong_payload_bit c) (Err WrongPayloadBit)
    (cond (no_such_slot c) (Err NoSuchSlot)
    done)))
