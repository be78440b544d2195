-- The table of commands.
use Rattle.std.specs.Prelude.{Bool, true, false, Option, Some, None}
use Rattle.command.specs.declared.opcode.Opcode.{Opcode}
use Rattle.command.specs.declared.opcode.Opcode.TheVariants.{WriteMem, ReadMem, FillRect, Blit, Dispatch1d, Barrier, CopyBuffer, SetFb}
use Rattle.command.specs.declared.table.Row.{Row}

-- a row: the payload bit is set, arg0 is an address, arg1 is an address
abbrev pub row : Bool → Bool → Bool → Row
row payload address0 address1 = record { payload = payload; address0 = address0; address1 = address1 }

-- the table: SET_FB's base and stride are judged with the frame and are no addresses here; nothing is asked of no opcode
unfoldable pub row_of : Option Opcode → Row
row_of (Some WriteMem) = row true true false
row_of (Some ReadMem) = row false true false
row_of (Some FillRect) = row false true false
row_of (Some Blit) = row false true true
row_of (Some Dispatch1d) = row false false false
row_of (Some Barrier) = row false false false
row_of (Some CopyBuffer) = row false true true
row_of (Some SetFb) = row false false false
row_of None = row false false false
