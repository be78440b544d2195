-- The search for the first ready ring, one ring at a time.
-- Assumes nothing.
use mathlib.Core.Path.{◌≡◌, refl, sym, ◌∙◌}
use mathlib.Core.Bool.{Bool, true, false, cond}
use mathlib.Core.List.{List}
use Rattle.std.specs.Prelude.{Some, None}
use Prim.Native.Nat.{ℕ, zero, suc, ◌+◌, ◌-◌, ◌<◌}
use native.Mathlib.Nat.{lt_irrefl}
use native.Mathlib.Omega.{arith}
use lib.Dec.{ltb}
use borrow.Author.Tests.{ltb-true}
use Rattle.state.specs.declared.device.Device.{Device}
use Rattle.state.specs.declared.device.Ring.{Ring}
use Rattle.state.specs.Device.{ring_of}
use Rattle.state.specs.Ready.{ready_where, ready_at, next_ring, seek}

-- what was found of a ring and its bytes is what the device's readiness says
pub told : (d : Device) (q : ℕ) (b : List ℕ) {ring : Ring} {bytes : List ℕ} {r answer : Bool} → ring ≡ ring_of d q → bytes ≡ b
    → r ≡ ready_where d.edition ring d.slots bytes → r ≡ answer → ready_at d q b ≡ answer
unfolding ready_at
told d q b same-ring same_bytes said is = rw (← same-ring, ← same_bytes) (sym said ∙ is)

-- the ring after a ring of four is one of four
pub next_below : (q : ℕ) → q < 4 → next_ring q < 4
unfolding next_ring
next_below q h = go (ltb q 3) refl
  where
    go : (b : Bool) → ltb q 3 ≡ b → cond b (q + 1) 0 < 4
    go true e = omega (arith, ltb-true q 3 e)
    go false e = omega arith

module _ (ready : ℕ → Bool) (q : ℕ) where
  -- where no ring is left to try
  pub seek-none : (n : ℕ) → n ≡ 0 → None ≡ seek ready q n
  unfolding seek
  seek-none n e = rw e refl

  seek_past : (n : ℕ) → ready q ≡ false → seek ready q (suc n) ≡ seek ready (next_ring q) n
  unfolding seek
  seek_past n e = rw e

  -- a ready ring is picked
  pub seek-here : (n : ℕ) → 0 < n → ready q ≡ true → seek ready q n ≡ Some q
  unfolding seek
  seek-here zero h e = absurd (lt_irrefl 0 h)
  seek-here (suc n) h e = rw e

  -- a ring that is not ready is passed over
  pub seek_on : (m n : ℕ) → n < m → ready q ≡ false → seek ready q (m - n) ≡ seek ready (next_ring q) (m - (n + 1))
  seek_on m n h e = rw (let more : m - n ≡ suc (m - (n + 1)) = omega arith in more) (seek_past (m - (n + 1)) e)
