-- Commands that emit, and commands that wait.
use Rattle.std.specs.Prelude.{Bool, ◌&&◌}
use Rattle.command.specs.declared.header.Command.{Command}
use Rattle.command.specs.Flags.{emit_bit, wait_bit}
use Rattle.command.specs.Faults.{header_fault}
use Rattle.command.specs.Outcome.{is_done}

-- a command that emits: its emit bit is set and it has no header fault
unfoldable pub is_emitting : Command → Bool
is_emitting c = emit_bit c.flags && is_done (header_fault c)

-- a command that waits: its wait bit is set and it has no header fault
unfoldable pub is_waiting : Command → Bool
is_waiting c = wait_bit c.flags && is_done (header_fault c)
