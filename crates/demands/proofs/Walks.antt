-- How far a ring is from the marker, and how a search walks there.
-- Assumes nothing.
use mathlib.Core.Path.{◌≡◌, refl}
use mathlib.Core.Bool.{Bool, true, false, cond}
use Prim.Native.Nat.{ℕ, zero, suc, ◌≤◌, ◌<◌}
use native.Mathlib.Nat.{not-suc-le-zero, le_of_suc-le-suc}
use native.Mathlib.Omega.{arith}
use lib.Dec.{lit<}
use Rattle.std.specs.Prelude.{Some}
use Rattle.state.specs.Ready.{next_ring, seek}
use Rattle.device.proofs.Verdicts.{each_of_four}

-- j rings further than m
unfoldable pub walk : ℕ → ℕ → ℕ
walk zero m = m
walk (suc j) m = walk j (next_ring m)

pub walk_next : (j m : ℕ) → next_ring (walk j m) ≡ walk (suc j) m
unfolding walk
walk_next zero m = refl
walk_next (suc j) m = walk_next j (next_ring m)

-- what is left of a walk past one of its rings
pub walk_rest : (i j m : ℕ) → i < j → (k : ℕ) × (k < j) × (walk k (walk (suc i) m) ≡ walk j m)
unfolding walk
walk_rest i zero m h = absurd (not-suc-le-zero h)
walk_rest zero (suc j) m h = (j, omega arith, refl)
walk_rest (suc i) (suc j) m h = let r = walk_rest i j (next_ring m) (le_of_suc-le-suc h) in (r.0, omega arith, r.2)

-- a ready ring on the way: the search stops there or before
pub seek_reaches : (f : ℕ → Bool) (n j m : ℕ) → j < n → f (walk j m) ≡ true → (i : ℕ) × (i ≤ j) × (seek f m n ≡ Some (walk i m))
unfolding walk seek
seek_reaches f zero j m h e = absurd (not-suc-le-zero h)
seek_reaches f (suc n) zero m h e = (zero, omega arith, rw e)
seek_reaches f (suc n) (suc j) m h e = step (f m) refl (seek_reaches f n j (next_ring m) (le_of_suc-le-suc h) e)
  where
    step : (b : Bool) → f m ≡ b → (i : ℕ) × (i ≤ j) × (seek f (next_ring m) n ≡ Some (walk i (next_ring m)))
        → (i : ℕ) × (i ≤ suc j) × (cond (f m) (Some m) (seek f (next_ring m) n) ≡ Some (walk i m))
    step true here r = (zero, omega arith, rw here)
    step false on r = (suc r.0, omega arith, rw on r.2)

-- a ring is at most three further than any other
pub distance : (m q : ℕ) → m < 4 → q < 4 → (j : ℕ) × (j < 4) × (walk j m ≡ q)
unfolding walk next_ring
distance m q hm hq =
    each_of_four (λ m. (q : ℕ) → q < 4 → (j : ℕ) × (j < 4) × (walk j m ≡ q))
    (each_of_four (λ q. (j : ℕ) × (j < 4) × (walk j 0 ≡ q)) (0, lit< tt, refl) (1, lit< tt, refl) (2, lit< tt, refl) (3, lit< tt, refl))
    (each_of_four (λ q. (j : ℕ) × (j < 4) × (walk j 1 ≡ q)) (3, lit< tt, refl) (0, lit< tt, refl) (1, lit< tt, refl) (2, lit< tt, refl))
    (each_of_four (λ q. (j : ℕ) × (j < 4) × (walk j 2 ≡ q)) (2, lit< tt, refl) (3, lit< tt, refl) (0, lit< tt, refl) (1, lit< tt, refl))
    (each_of_four (λ q. (j : ℕ) × (j < 4) × (walk j 3 ≡ q)) (1, lit< tt, refl) (2, lit< tt, refl) (3, lit< tt, refl) (0, lit< tt, refl))
    m hm q hq
