use Prim.Native.Nat.{◌-◌, ◌≤◌, ◌<◌}
use mathlib.Core.Path.{◌≡◌}
use Rattle.state.specs.Ready.{ready_at, bytes_of_ring, seek, pick_of}
use Rattle.state.proofs.ready.pick.Given as goal

abbrev pub invariant-loop : goal.invariant-loop
invariant-loop l =
    let ring0 = l.rings.ring0.now in
    let ring1 = l.rings.ring1.now in
    let ring2 = l.rings.ring2.now in
    let ring3 = l.rings.ring3.now in
    (l.counter ≤ 4) × (l.q < 4)
    × (pick_of l.d ring0 ring1 ring2 ring3 ≡ seek (λ p. ready_at l.d p (bytes_of_ring p ring0 ring1 ring2 ring3)) l.q (4 - l.counter))
