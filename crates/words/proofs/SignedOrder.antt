-- The signed number of a word, and that the signed order of words is the order of ℤ.
-- Assumes nothing.
use Rattle.std.proofs.Common.{◌≡◌, ℕ, suc, ◌-◌, ◌^◌, ◌<◌, ◌≤◌, ltb, ◌⊎◌, pos, negsuc, inl, inr, arith, le-ltb, lt-ltb}
use lib.Signed.{lt_z}
use Rattle.words.specs.Signed.{signed_of, biased, below_signed}
use Rattle.words.proofs.Order.{lt_or_ge, same_test}

-- a word below 2 ^ 31 stands for itself, and any other for a negative number
pub signed_small : (w : ℕ) → w < 2 ^ 31 → signed_of w ≡ pos w
signed_small w h = rw (lt-ltb w (2 ^ 31) h)

pub signed_large : (w : ℕ) → 2 ^ 31 ≤ w → signed_of w ≡ negsuc (2 ^ 32 - suc w)
signed_large w h = rw (le-ltb w (2 ^ 31) h)

-- `below_signed` is the order of the signed numbers
pub below_signed_lem : (a b : ℕ) → a < 2 ^ 32 → b < 2 ^ 32 → below_signed a b ≡ lt_z (signed_of a) (signed_of b)
unfolding below_signed
below_signed_lem a b ha hb = go (lt_or_ge a (2 ^ 31)) (lt_or_ge b (2 ^ 31))
  where
    go : (a < 2 ^ 31) ⊎ (2 ^ 31 ≤ a) → (b < 2 ^ 31) ⊎ (2 ^ 31 ≤ b) → ltb (biased a) (biased b) ≡ lt_z (signed_of a) (signed_of b)
    go (inl p) (inl q) = rw (signed_small a p, signed_small b q) (same_test (biased a) (biased b) a b (λ h. omega arith) (λ h. omega arith))
    go (inl p) (inr q) = rw (signed_small a p, signed_large b q) (le-ltb (biased a) (biased b) (omega arith))
    go (inr p) (inl q) = rw (signed_large a p, signed_small b q) (lt-ltb (biased a) (biased b) (omega arith))
    go (inr p) (inr q) =
        rw (signed_large a p, signed_large b q)
        (same_test (biased a) (biased b) (2 ^ 32 - suc b) (2 ^ 32 - suc a) (λ h. omega arith) (λ h. omega arith))
