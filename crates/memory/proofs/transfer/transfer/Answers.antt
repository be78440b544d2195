use mathlib.Core.Path.{refl, sym}
use Prim.Native.Nat.{ℕ, ◌+◌, ◌-◌, ◌<◌}
use native.Mathlib.Omega.{arith}
use lib.ListN.{length-set}
use lib.Seq.{get_or-take, get_or-drop}
use Rattle.memory.proofs.Transferred.{transferred-none, transferred-more}
use Rattle.memory.proofs.transfer.transfer.Goals as goal

pub loop-i-init : goal.loop-i-init
loop-i-init c = (refl, sym (transferred-none _ _ _ _))

pub loop-i-preserved : goal.loop-i-preserved
loop-i-preserved c =
    let below : c.loop-i.i < c.args.start + c.args.n - c.args.start = omega (arith, c.loop-i-test.true) in (
      simp length-set c.loop-i.invariant.0,
      rw (get_or-take {A = ℕ} _ _ c.loop-i.i 0 below, get_or-drop, transferred-more, ← c.loop-i.invariant.1),
    )
