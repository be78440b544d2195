-- What holds of every number below a bound, by one test that antt computes, holds of each.
-- Assumes nothing.
use Rattle.std.proofs.Common.{◌≡◌, ℕ, zero, suc, ◌<◌, Bool, true, ⊎_elim, le_of_suc-le-suc, not-suc-le-zero, eq-or-lt_of_le}
use Rattle.words.specs.Choice.{all_below}
use Rattle.words.proofs.Choices.{both_left, both_right}

pub each_below : (test : ℕ → Bool) (n : ℕ) → all_below test n ≡ true → (k : ℕ) → k < n → test k ≡ true
unfolding all_below
each_below test zero e k h = absurd (not-suc-le-zero h)
each_below test (suc n) e k h =
    ⊎_elim
    (λ same. rw same (both_right (all_below test n) (test n) e))
    (λ less. each_below test n (both_left (all_below test n) (test n) e) k less)
    (eq-or-lt_of_le (le_of_suc-le-suc h))
