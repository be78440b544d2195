-- ASR is the quotient of the signed number by a power of two, rounded down.
-- Assumes nothing.
use Rattle.std.proofs.Common.{◌≡◌, ℕ, zero, suc, ◌+◌, ◌-◌, ◌*◌, ◌/◌, ◌%◌, ◌^◌, ◌<◌, ◌≤◌, ◌⊎◌, ℤ, pos, negsuc, ◌+ℤ◌, ◌*ℤ◌, neg_ℤ, ◌≤ℤ◌, ◌<ℤ◌, ap, ◌∙◌, inl, inr, le_of_suc-le-suc, not-suc-le-zero, suc-mul, div-mul-le_self, add-one, arith, le→leb, lt→ltb, pow_pos, le-ltb, lt-ltb}
use native.Mathlib.Nat.{lt-div-mul-add}
use lib.IntN.{suc_ℤ, +ℤ_one}
use lib.Pow.{shr_le}
use lib.Signed.{shr_z}
use Rattle.words.specs.Signed.{signed_of}
use Rattle.words.specs.Arithmetic.{shifted_signed}
use Rattle.words.proofs.Order.{lt_or_ge}
use Rattle.words.proofs.SignedOrder.{signed_small, signed_large}

-- ASR divides the signed number by the power of two
pub shifted_signed_lem : (a b : ℕ) → a < 2 ^ 32 → signed_of (shifted_signed a b) ≡ shr_z (signed_of a) (2 ^ (b % 32))
unfolding shifted_signed
shifted_signed_lem a b ha = go (lt_or_ge a (2 ^ 31))
  where
    go : (a < 2 ^ 31) ⊎ (2 ^ 31 ≤ a) → signed_of (shifted_signed a b) ≡ shr_z (signed_of a) (2 ^ (b % 32))
    go (inl p) =
        rw (lt-ltb a (2 ^ 31) p) (signed_small (a / 2 ^ (b % 32)) (omega (arith, shr_le a (b % 32))))
    go (inr p) =
        let low : (2 ^ 32 - 1 - a) / 2 ^ (b % 32) ≤ 2 ^ 32 - 1 - a = shr_le (2 ^ 32 - 1 - a) (b % 32) in
        let same : 2 ^ 32 - suc a ≡ 2 ^ 32 - 1 - a = omega arith in
        rw (le-ltb a (2 ^ 31) p, same)
        (signed_large (2 ^ 32 - 1 - (2 ^ 32 - 1 - a) / 2 ^ (b % 32)) (omega arith) ∙ ap negsuc (omega arith))

-- a shift of an integer rounds down: with q the result, q · m ≤ z < (q + 1) · m
below_zero_le : (t a : ℕ) → a < t → neg_ℤ (pos t) ≤ℤ negsuc a
below_zero_le zero a h = absurd (not-suc-le-zero h)
below_zero_le (suc t) a h = record { le = le→leb a t (le_of_suc-le-suc h) }

below_zero_lt : (q m a : ℕ) → q * m ≤ a → negsuc a <ℤ (suc_ℤ (negsuc q) *ℤ pos m)
below_zero_lt zero m a h = record { lt = tt }
below_zero_lt (suc q) m a h = go (suc q * m) h
  where
    go : (t : ℕ) → t ≤ a → negsuc a <ℤ neg_ℤ (pos t)
    go zero l = record { lt = tt }
    go (suc t) l = record { lt = lt→ltb t a l }

module _ (m : ℕ) (p : 0 < m) where
  pub shift_le : (z : ℤ) → (shr_z z m *ℤ pos m) ≤ℤ z
  shift_le (pos a) = record { le = le→leb (a / m * m) a (div-mul-le_self a m) }
  shift_le (negsuc a) = below_zero_le (suc (a / m) * m) a (rw (suc-mul (a / m) m) (lt-div-mul-add p))

  pub shift_lt : (z : ℤ) → z <ℤ ((shr_z z m +ℤ pos 1) *ℤ pos m)
  shift_lt (pos a) = record { lt = lt→ltb a ((a / m + 1) * m) (rw (add-one, suc-mul (a / m) m) (lt-div-mul-add p)) }
  shift_lt (negsuc a) = rw (+ℤ_one (negsuc (a / m))) (below_zero_lt (a / m) m a (div-mul-le_self a m))

-- so ASR rounds down
pub asr_rounds_down : (a b : ℕ) → a < 2 ^ 32
    → ((signed_of (shifted_signed a b) *ℤ pos (2 ^ (b % 32))) ≤ℤ signed_of a)
    × (signed_of a <ℤ ((signed_of (shifted_signed a b) +ℤ pos 1) *ℤ pos (2 ^ (b % 32))))
asr_rounds_down a b h =
    rw (shifted_signed_lem a b h) (shift_le (2 ^ (b % 32)) (pow_pos (b % 32)) (signed_of a), shift_lt (2 ^ (b % 32)) (pow_pos (b % 32)) (signed_of a))
