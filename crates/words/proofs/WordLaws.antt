-- Each result is a word, so that a register keeps it as it is. `lanes_of_below` of LaneTypes says it of lanes.
-- Assumes nothing.
use Rattle.std.proofs.Common.{ℕ, ◌+◌, ◌-◌, ◌*◌, ◌%◌, ◌^◌, ◌<◌, ◌≤◌, Bool, true, false, cond, ltb, ◌⊎◌, inl, inr, lt_of_le_of_lt, mod-lt, arith, pow_pos, pow_mono, le-ltb, lt-ltb}
use lib.Bits.{bit_xor, bit_and, bit_or, xor_lt, and_lt, or_lt}
use lib.Pow.{shr_le}
use Rattle.words.specs.Signed.{extended, below_signed}
use Rattle.words.specs.Fields.{field, imm_i, imm_s, imm_b, imm_u}
use Rattle.words.specs.Arithmetic.{sum, difference, product, shifted_left, shifted_right, shifted_signed, least, greatest, magnitude}
use Rattle.words.specs.Counts.{clz_of, ctz_of}
use Rattle.words.proofs.Order.{lt_or_ge}
use Rattle.words.proofs.CountLaws.{clz_le, ctz_le}

-- over the width
pub sum_below : (k a b : ℕ) → sum k a b < 2 ^ k
sum_below k a b = mod-lt (a + b) (pow_pos k)

pub difference_below : (k a b : ℕ) → difference k a b < 2 ^ k
difference_below k a b = mod-lt (a + (2 ^ k - b)) (pow_pos k)

pub product_below : (k a b : ℕ) → product k a b < 2 ^ k
product_below k a b = mod-lt (a * b) (pow_pos k)

-- either choice is below n
either_below : (t : Bool) (n : ℕ) {x y : ℕ} → x < n → y < n → cond t x y < n
either_below true n p q = p
either_below false n p q = q

pub shifted_left_below : (a b : ℕ) → shifted_left a b < 2 ^ 32
shifted_left_below a b = mod-lt (a * 2 ^ (b % 32)) (pow_pos 32)

pub extended_below : (k x : ℕ) → k ≤ 32 → x < 2 ^ k → extended k x < 2 ^ 32
extended_below k x hk h =
    let size : 2 ^ k ≤ 2 ^ 32 = pow_mono hk in
    either_below (ltb x (2 ^ (k - 1))) (2 ^ 32) (omega arith) (omega arith)

module _ (a b : ℕ) (ha : a < 2 ^ 32) where
  pub shifted_right_below : shifted_right a b < 2 ^ 32
  shifted_right_below = lt_of_le_of_lt (shr_le a (b % 32)) ha

  pub shifted_signed_below : shifted_signed a b < 2 ^ 32
  unfolding shifted_signed
  shifted_signed_below = either_below (ltb a (2 ^ 31)) (2 ^ 32) shifted_right_below (omega arith)

module _ (a b : ℕ) (ha : a < 2 ^ 32) (hb : b < 2 ^ 32) where
  pub least_below : least a b < 2 ^ 32
  unfolding least
  least_below = either_below (below_signed a b) (2 ^ 32) ha hb

  pub greatest_below : greatest a b < 2 ^ 32
  unfolding greatest
  greatest_below = either_below (below_signed a b) (2 ^ 32) hb ha

  pub xor_below : bit_xor a b < 2 ^ 32
  xor_below = xor_lt 32 a b ha hb

  pub and_below : bit_and a b < 2 ^ 32
  and_below = and_lt 32 a b ha hb

  pub or_below : bit_or a b < 2 ^ 32
  or_below = or_lt 32 a b ha hb

pub magnitude_below : (a : ℕ) → a < 2 ^ 32 → magnitude a < 2 ^ 32
unfolding magnitude
magnitude_below a h = go (lt_or_ge a (2 ^ 31))
  where
    go : (a < 2 ^ 31) ⊎ (2 ^ 31 ≤ a) → magnitude a < 2 ^ 32
    go (inl p) = rw (lt-ltb a (2 ^ 31) p) h
    go (inr p) = rw (le-ltb a (2 ^ 31) p) (omega arith)

pub clz_below : (x : ℕ) → clz_of x < 2 ^ 32
clz_below x = omega (arith, clz_le x)

pub ctz_below : (x : ℕ) → ctz_of x < 2 ^ 32
ctz_below x = omega (arith, ctz_le x)

-- the immediates
pub imm_i_below : (w : ℕ) → imm_i w < 2 ^ 32
imm_i_below w = extended_below 12 (field 20 12 w) (omega arith) (omega arith)

pub imm_s_below : (w : ℕ) → imm_s w < 2 ^ 32
imm_s_below w = extended_below 12 (field 25 7 w * 2 ^ 5 + field 7 5 w) (omega arith) (omega arith)

pub imm_b_below : (w : ℕ) → imm_b w < 2 ^ 32
imm_b_below w =
    extended_below 13 (field 31 1 w * 2 ^ 12 + field 7 1 w * 2 ^ 11 + field 25 6 w * 2 ^ 5 + field 8 4 w * 2) (omega arith) (omega arith)

pub imm_u_below : (w : ℕ) → imm_u w < 2 ^ 32
imm_u_below w = omega arith
