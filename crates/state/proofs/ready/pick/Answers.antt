use mathlib.Core.Path.{refl, sym, ◌∙◌}
use native.Mathlib.Omega.{arith}
use Rattle.state.specs.Device.{ring_of}
use Rattle.state.proofs.Seeks.{told, next_below, seek-none, seek-here, seek_on}
use Rattle.state.proofs.ready.pick.Goals as goal

pub loop-preserved : goal.loop-preserved
unfolding ring_of
loop-preserved c =
    let i = c.loop.invariant in
    (omega arith, rw c.next_ring-q.ensures (next_below _ i.1), rw c.next_ring-q.ensures (i.2 ∙ seek_on _ _ _ _ (omega arith) (told _ _ _ refl c.ring.ensures c.is_ready.ensures c.if-is_ready.false)))

pub returns : goal.returns
returns c = rw c.loop.invariant.2 (seek-none _ _ _ (omega arith))

pub returns-then-is_ready : goal.returns-then-is_ready
unfolding ring_of
returns-then-is_ready c = sym (c.loop.invariant.2 ∙ seek-here _ _ _ (omega arith) (told _ _ _ refl c.ring.ensures c.is_ready.ensures c.if-is_ready.true))
