use mathlib.Core.Path.{◌≡◌}
use lib.ListN.{length}
use Rattle.memory.specs.Transfer.{transferred}
use Rattle.memory.proofs.transfer.transfer.Given as goal

abbrev pub invariant-loop-i : goal.invariant-loop-i
invariant-loop-i l = (length l.target ≡ length l.initial.target) × (l.target ≡ transferred l.source l.start l.at l.i l.initial.target)
