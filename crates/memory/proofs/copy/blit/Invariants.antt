use mathlib.Core.Path.{◌≡◌}
use Rattle.memory.proofs.Order.{ordered}
use Rattle.memory.proofs.Copied.{row_put}
use Rattle.memory.proofs.copy.blit.Given as goal

abbrev pub invariant-loop-i : goal.invariant-loop-i
invariant-loop-i l =
    l.window ≡ ordered l.to l.from l.rectangle.height (row_put l.to l.from l.rectangle.stride l.rectangle.width l.initial.window) l.i l.initial.window
