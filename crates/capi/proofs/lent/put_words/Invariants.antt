use mathlib.Core.Path.{◌≡◌}
use Prim.Native.Nat.{◌*◌}
use lib.ListN.{take}
use lib.Seq.{sets}
use Rattle.capi.specs.Image.{bytes_of}
use Rattle.capi.proofs.lent.put_words.Given as goal

abbrev pub invariant-loop-i : goal.invariant-loop-i
invariant-loop-i l = l.bytes ≡ sets l.initial.bytes (4 * l.k) (bytes_of (take l.i l.words))
