use mathlib.Core.Path.{◌≡◌}
use Rattle.memory.specs.Rectangle.{words_put}
use Rattle.memory.proofs.rectangle.fill_row.Given as goal

abbrev pub invariant-loop-x : goal.invariant-loop-x
invariant-loop-x l =
    l.window ≡ words_put l.address l.x (λ i. l.color) l.initial.window
