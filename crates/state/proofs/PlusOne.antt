-- What one more does to a row of counts, and to its sum.
-- Assumes nothing.
use mathlib.Core.Path.{◌≡◌, refl}
use mathlib.Core.Bool.{Bool, true, false, cond}
use mathlib.Core.List.{List}
use Prim.Native.Nat.{ℕ, ◌+◌, ◌%◌, ◌^◌, ◌<◌}
use native.Mathlib.Omega.{arith}
use lib.Dec.{eqb}
use lib.ListN.{length, get_or, length-set}
use lib.Seq.{get_or-set_same, get_or-set_other}
use borrow.Author.Tests.{eqb-true, eqb-false, eq-eqb}
use Rattle.std.specs.Prelude.{sum}
use Rattle.std.proofs.lemmas.List.Sums.{sum_by-set}
use Rattle.state.specs.declared.counts.Counts.{Counts}
use Rattle.state.specs.PlusOne.{plus_one, plus_one_at}
use Rattle.state.specs.Counts.{counted, balanced}
use Rattle.state.proofs.Places.{put_each}

-- place n alone is one more
pub one_up : (xs : List ℕ) (n : ℕ) → n < length xs → (m : ℕ) → get_or (plus_one_at xs n) m 0 ≡ cond (eqb m n) (plus_one (get_or xs m 0)) (get_or xs m 0)
unfolding plus_one_at
one_up xs n inside m = go (eqb m n) refl
  where
    go : (b : Bool) → eqb m n ≡ b → get_or (plus_one_at xs n) m 0 ≡ cond b (plus_one (get_or xs m 0)) (get_or xs m 0)
    go true e = rw (eqb-true m n e) (get_or-set_same xs n (plus_one (get_or xs n 0)) 0 inside)
    go false e = get_or-set_other xs n m (plus_one (get_or xs n 0)) 0 (eqb-false m n e)

-- every number fits as before
pub plus_one-fits : (xs : List ℕ) (n : ℕ) → ((m : ℕ) → get_or xs m 0 < 2 ^ 32) → (m : ℕ) → get_or (plus_one_at xs n) m 0 < 2 ^ 32
unfolding plus_one_at
plus_one-fits xs n fit m = put_each (λ x. x < 2 ^ 32) 0 xs n (plus_one (get_or xs n 0)) m (λ e. omega arith) (fit m)

-- and there are as many
pub plus_one-long : (xs : List ℕ) (n : ℕ) → length (plus_one_at xs n) ≡ length xs
unfolding plus_one_at
plus_one-long xs n = length-set xs n _

-- the sum changes as the place does
pub total_changes : (xs : List ℕ) (n : ℕ) → n < length xs → sum (plus_one_at xs n) + get_or xs n 0 ≡ sum xs + plus_one (get_or xs n 0)
unfolding plus_one_at
total_changes xs n h = sum_by-set (λ x. x) xs n _ 0 h

-- so sums that agree still agree once a command is counted
pub counted-balanced : (counts : Counts) (q k : ℕ) → q < length counts.commands → k < length counts.outcomes → balanced counts ≡ true
    → balanced (counted counts q k) ≡ true
unfolding balanced counted
counted-balanced counts q k ring outcome same =
    let was = eqb-true (sum counts.commands % 2 ^ 32) (sum counts.outcomes % 2 ^ 32) same in
    let agree : sum (plus_one_at counts.commands q) % 2 ^ 32 ≡ sum (plus_one_at counts.outcomes k) % 2 ^ 32 =
    omega (arith, was, total_changes counts.commands q ring, total_changes counts.outcomes k outcome) in
    eq-eqb _ _ agree
