use mathlib.Core.Path.{◌≡◌}
use Prim.Native.Nat.{◌≤◌, ◌-◌}
use lib.ListN.{length, take}
use Rattle.capi.specs.Image.{words_in}
use Rattle.capi.proofs.lent.take_words.Given as goal

abbrev pub invariant-loop-i : goal.invariant-loop-i
invariant-loop-i l = (l.i ≤ length l.initial.words) × (length l.words ≡ length l.initial.words) × (take l.i l.words ≡ words_in l.bytes l.k l.i)

abbrev pub decreases-loop-i : goal.decreases-loop-i
decreases-loop-i l = length l.initial.words - l.i
