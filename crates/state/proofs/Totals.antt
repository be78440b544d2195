-- Sums of counts.
-- Assumes nothing.
use mathlib.Core.List.{List, [], ◌∷◌}
use Prim.Native.Nat.{ℕ, zero, suc, ◌*◌, ◌≤◌, ◌<◌}
use native.Mathlib.Omega.{arith}
use lib.ListN.{length, get_or}
use Rattle.std.specs.Prelude.{sum}
use Rattle.std.proofs.lemmas.List.Sums.{sum_by-cons}

-- a count is no more than the sum
pub count_within : (xs : List ℕ) (n : ℕ) → get_or xs n 0 ≤ sum xs
count_within [] n = omega arith
count_within (x ∷ xs) zero = omega (arith, sum_by-cons (λ n. n) x xs)
count_within (x ∷ xs) (suc n) = omega (arith, count_within xs n, sum_by-cons (λ n. n) x xs)

-- counts of at most 4,096 sum to at most 4,096 for each
pub total-most : (xs : List ℕ) → ((n : ℕ) → n < length xs → get_or xs n 0 ≤ 4096) → sum xs ≤ 4096 * length xs
total-most [] h = omega arith
total-most (x ∷ xs) h = omega (arith, sum_by-cons (λ n. n) x xs, h 0 (omega arith), total-most xs (λ n below. h (suc n) (omega arith)))
