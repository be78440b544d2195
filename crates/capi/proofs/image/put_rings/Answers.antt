use mathlib.Core.Path.{◌≡◌, refl, ◌∙◌}
use Prim.Native.Nat.{◌*◌}
use native.Mathlib.Numerals.{add-one}
use native.Mathlib.Omega.{arith}
use Rattle.capi.specs.Image.{bytes_of}
use Rattle.capi.proofs.Sizes.{rings_below, rings_below-length, all_rings}
use Rattle.capi.proofs.WordBytes.{words_then}
use Rattle.capi.proofs.image.put_rings.Goals as goal

pub loop-q-init : goal.loop-q-init
unfolding rings_below bytes_of
loop-q-init c = refl

pub loop-q-preserved : goal.loop-q-preserved
unfolding rings_below
loop-q-preserved c =
    let d = c.args.d in
    let q = c.loop-q.q in
    rw (add-one q, ← c.ring.ensures)
    (words_then c.args.image.now 0 (rings_below d q) (7 * q) _ (omega (arith, rings_below-length d q)) c.loop-q.invariant c.put_ring.ensures)

pub returns : goal.returns
returns c =
    let last : c.loop-q.q ≡ 4 = omega arith in
    c.loop-q.invariant ∙ rw (last, all_rings c.args.d)
