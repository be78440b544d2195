use mathlib.Core.Path.{◌≡◌}
use Rattle.memory.specs.Quad.{quad_word}
use Rattle.memory.specs.Rectangle.{words_put}
use Rattle.memory.proofs.quad.put_quad.Given as goal

abbrev pub invariant-loop-i : goal.invariant-loop-i
invariant-loop-i l =
    l.window ≡ words_put l.at l.i (quad_word l.fn.quad) l.initial.window
