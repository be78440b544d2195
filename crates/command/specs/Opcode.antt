-- The opcodes and their numbers.
use Rattle.std.specs.Prelude.{ℕ, Bool, false, cond, eqb, Option, Some, None}
use Rattle.command.specs.declared.opcode.Opcode.{Opcode}
use Rattle.command.specs.declared.opcode.Opcode.TheVariants.{WriteMem, ReadMem, FillRect, Blit, Dispatch1d, Barrier, CopyBuffer, SetFb}

-- the number of each opcode
abbrev pub opcode_number : Opcode → ℕ
opcode_number WriteMem = 0x01
opcode_number ReadMem = 0x02
opcode_number FillRect = 0x10
opcode_number Blit = 0x11
opcode_number Dispatch1d = 0x20
opcode_number Barrier = 0x22
opcode_number CopyBuffer = 0x23
opcode_number SetFb = 0x30

-- the opcode of a byte; none if it is not in the table
unfoldable pub opcode_of : ℕ → Option Opcode
opcode_of byte =
    cond (eqb byte (opcode_number WriteMem)) (Some WriteMem)
    (cond (eqb byte (opcode_number ReadMem)) (Some ReadMem)
    (cond (eqb byte (opcode_number FillRect)) (Some FillRect)
    (cond (eqb byte (opcode_number Blit)) (Some Blit)
    (cond (eqb byte (opcode_number Dispatch1d)) (Some Dispatch1d)
    (cond (eqb byte (opcode_number Barrier)) (Some Barrier)
    (cond (eqb byte (opcode_number CopyBuffer)) (Some CopyBuffer)
    (cond (eqb byte (opcode_number SetFb)) (Some SetFb)
    None)))))))

-- is it this opcode
abbrev pub is_opcode : Option Opcode → Opcode → Bool
is_opcode None opcode = false
is_opcode (Some own) opcode = eqb (opcode_number own) (opcode_number opcode)
