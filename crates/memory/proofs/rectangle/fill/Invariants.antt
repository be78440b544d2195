use mathlib.Core.Path.{◌≡◌}
use Rattle.memory.specs.Rectangle.{pixels_put}
use Rattle.memory.proofs.rectangle.fill.Given as goal

abbrev pub invariant-loop-y : goal.invariant-loop-y
invariant-loop-y l =
    l.window ≡ pixels_put l.address l.rectangle.stride l.rectangle.width l.y (λ i j. l.color) l.initial.window
