-- What a command and its outcome make a turn report.
use Rattle.std.specs.Prelude.{ℕ, Bool, ◌&&◌, ◌||◌, cond, leb}
use Rattle.command.specs.declared.header.Command.{Command}
use Rattle.command.specs.declared.opcode.Opcode.TheVariants.{ReadMem}
use Rattle.command.specs.Opcode.{is_opcode}
use Rattle.command.specs.Outcome.{Outcome, outcome_number, is_done}
use Rattle.command.specs.Flags.{irq_bit, emit_bit}

-- outcome 0, or one from `low` on
abbrev pub done_or_from : ℕ → Outcome → Bool
done_or_from low o = is_done o || leb low (outcome_number o)

-- an emitting command with outcome 0 or 6 to 14 adds 1 to its slot
unfoldable pub emits : Command → Outcome → Bool
emits c o = emit_bit c.flags && done_or_from 6 o

-- IRQ is reported exactly if bit 0 is set and the outcome is not 1 to 4
unfoldable pub interrupts : Command → Outcome → Bool
interrupts c o = irq_bit c.flags && done_or_from 5 o

-- words read is len for a READ_MEM with outcome 0, else 0
unfoldable pub words_read : Command → Outcome → ℕ
words_read c o = cond (is_opcode c.opcode ReadMem && is_done o) c.len 0
