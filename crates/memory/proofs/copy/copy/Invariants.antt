use mathlib.Core.Path.{◌≡◌}
use Rattle.memory.proofs.Order.{ordered}
use Rattle.memory.proofs.Copied.{word_put}
use Rattle.memory.proofs.copy.copy.Given as goal

abbrev pub invariant-loop-i : goal.invariant-loop-i
invariant-loop-i l =
    l.window ≡ ordered l.to l.from l.words (word_put l.to l.from l.initial.window) l.i l.initial.window
