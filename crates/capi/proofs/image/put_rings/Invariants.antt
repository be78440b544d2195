use mathlib.Core.Path.{◌≡◌}
use lib.Seq.{sets}
use Rattle.capi.specs.Image.{bytes_of}
use Rattle.capi.proofs.Sizes.{rings_below}
use Rattle.capi.proofs.image.put_rings.Given as goal

abbrev pub invariant-loop-q : goal.invariant-loop-q
invariant-loop-q l = l.image ≡ sets l.initial.image 0 (bytes_of (rings_below l.d l.q))
