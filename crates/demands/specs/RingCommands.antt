-- The commands that stand in a ring, one after another.
use Rattle.std.specs.Prelude.{ℕ, zero, suc, ◌+◌, List}
use Rattle.command.specs.declared.header.Command.{Command}
use Rattle.command.specs.Header.{command_at}

-- where the n-th command of a ring begins
unfoldable pub place_of : List ℕ → ℕ → ℕ
place_of b zero = 0
place_of b (suc n) = place_of b n + (command_at b (place_of b n)).size

-- the n-th command of a ring
abbrev pub nth : List ℕ → ℕ → Command
nth b n = command_at b (place_of b n)
