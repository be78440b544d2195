use mathlib.Core.Path.{◌≡◌}
use Rattle.words.specs.Arithmetic.{product}
use Rattle.words.specs.Lanes.{lanewise}
use Rattle.words.proofs.products.products.Given as goal

abbrev pub invariant-loop-i : goal.invariant-loop-i
invariant-loop-i g l = l.word ≡ lanewise (product g.row.BITS) g.row.BITS l.i l.a l.b
