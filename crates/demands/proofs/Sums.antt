-- Laws of the sum over the four rings.
-- Assumes nothing.
use mathlib.Core.Path.{◌≡◌}
use Prim.Native.Nat.{ℕ, ◌+◌, ◌≤◌, ◌<◌}
use native.Mathlib.Omega.{arith}
use lib.Dec.{lit<}
use Rattle.device.proofs.Verdicts.{each_of_four}
use Rattle.device.specs.Untaken.{sum_of}

-- one of four grows by x, and so does the sum
pub sum_grows : (f g : ℕ → ℕ) (x r : ℕ) → r < 4 → ((n : ℕ) → (n ≡ r → ⊥) → g n ≡ f n) → g r ≡ f r + x
    → sum_of 4 g ≡ sum_of 4 f + x
unfolding sum_of
sum_grows f g x =
    each_of_four (λ r. ((n : ℕ) → (n ≡ r → ⊥) → g n ≡ f n) → g r ≡ f r + x → sum_of 4 g ≡ sum_of 4 f + x)
    (λ same more. omega (arith, same 1 (λ e. omega arith), same 2 (λ e. omega arith), same 3 (λ e. omega arith)))
    (λ same more. omega (arith, same 0 (λ e. omega arith), same 2 (λ e. omega arith), same 3 (λ e. omega arith)))
    (λ same more. omega (arith, same 0 (λ e. omega arith), same 1 (λ e. omega arith), same 3 (λ e. omega arith)))
    (λ same more. omega (arith, same 0 (λ e. omega arith), same 1 (λ e. omega arith), same 2 (λ e. omega arith)))

-- a sum of no more
pub sum-most : (f g : ℕ → ℕ) → ((q : ℕ) → q < 4 → f q ≤ g q) → sum_of 4 f ≤ sum_of 4 g
unfolding sum_of
sum-most f g le = omega (arith, le 0 (lit< tt), le 1 (lit< tt), le 2 (lit< tt), le 3 (lit< tt))

-- a sum of sums
pub sum_both : (f g h : ℕ → ℕ) → ((q : ℕ) → q < 4 → f q ≡ g q + h q) → sum_of 4 f ≡ sum_of 4 g + sum_of 4 h
unfolding sum_of
sum_both f g h same = omega (arith, same 0 (lit< tt), same 1 (lit< tt), same 2 (lit< tt), same 3 (lit< tt))
