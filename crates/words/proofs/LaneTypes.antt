-- The laws of an operation on a word of lanes, by the lanes' type.
-- Assumes nothing.
use Rattle.std.proofs.Common.{◌≡◌, ℕ, ◌+◌, ◌-◌, ◌*◌, ◌%◌, ◌^◌, ◌<◌, refl, ap, ◌∙◌, subst, ap₂, mod-eq_of_lt, div-one, arith}
use lib.Bits.{bit_xor, bit_and, bit_or, xor_lt, and_lt, or_lt}
use Rattle.words.specs.Bytes.{word_of, byte_of}
use Rattle.words.specs.Halves.{word_of_halves, word_half}
use Rattle.words.specs.Lanes.{lanewise, lane_bits, lane_count, lane_of, lanes_of}
use Rattle.words.specs.declared.lanes.LaneOp.{LaneOp}
use Rattle.words.specs.declared.lanes.LaneOp.TheVariants.{Add, Sub, Xor, And, Or, Mul}
use Rattle.words.specs.declared.lanes.LaneType.{LaneType}
use Rattle.words.specs.declared.lanes.LaneType.TheVariants.{I32, I16, I8}
use Rattle.words.proofs.HeldBack.{held_sum, held_difference}
use Rattle.words.proofs.AllLanes.{below_twice, sums_at_once, differences_at_once}
use Rattle.words.proofs.LaneLaws.{lanewise_below, lanewise_xor, lanewise_and, lanewise_or}
use Rattle.words.proofs.WordLaws.{sum_below, difference_below, product_below}

-- the lanes fill the word
pub lanes_fill : (ty : LaneType) → lane_bits ty * lane_count ty ≡ 32
lanes_fill I32 = refl
lanes_fill I16 = refl
lanes_fill I8 = refl

-- the result of two lanes is a lane
pub lane_of_below : (op : LaneOp) (ty : LaneType) (x y : ℕ) → x < 2 ^ lane_bits ty → y < 2 ^ lane_bits ty → lane_of op ty x y < 2 ^ lane_bits ty
lane_of_below Add ty x y hx hy = sum_below (lane_bits ty) x y
lane_of_below Sub ty x y hx hy = difference_below (lane_bits ty) x y
lane_of_below Xor ty x y hx hy = xor_lt (lane_bits ty) x y hx hy
lane_of_below And ty x y hx hy = and_lt (lane_bits ty) x y hx hy
lane_of_below Or ty x y hx hy = or_lt (lane_bits ty) x y hx hy
lane_of_below Mul ty x y hx hy = product_below (lane_bits ty) x y

module _ (op : LaneOp) (ty : LaneType) where
  -- the result is a word
  pub lanes_of_below : (a b : ℕ) → lanes_of op ty a b < 2 ^ 32
  unfolding lanes_of
  lanes_of_below a b =
      subst (λ (x : ℕ). lanes_of op ty a b < 2 ^ x) (lanes_fill ty)
      (lanewise_below (lane_of op ty) (lane_bits ty) (lane_of_below op ty) (lane_count ty) a b)

-- the top bit of each lane, and the bits below it
abbrev pub lane_tops : LaneType → ℕ
lane_tops ty = lanewise (λ _ _. 2 ^ (lane_bits ty - 1)) (lane_bits ty) (lane_count ty) 0 0

abbrev pub lane_below : LaneType → ℕ
lane_below ty = lanewise (λ _ _. 2 ^ (lane_bits ty - 1) - 1) (lane_bits ty) (lane_count ty) 0 0

pub other_bits : (ty : LaneType) → 2 ^ 32 - 1 - lane_below ty ≡ lane_tops ty
unfolding lanewise
other_bits I32 = refl
other_bits I16 = refl
other_bits I8 = refl

pub lane_below_twice : (ty : LaneType) → lane_below ty + lane_below ty < 2 ^ 32
lane_below_twice I32 = below_twice 31 1
lane_below_twice I16 = below_twice 15 2
lane_below_twice I8 = below_twice 7 4

-- the bits of a word that its lanes fill
abbrev low : LaneType → ℕ → ℕ
low ty w = w % 2 ^ (lane_bits ty * lane_count ty)

-- the sums and the differences by the law, at each type
sums : (ty : LaneType) (a b : ℕ) → lanes_of Add ty a b ≡ held_sum (lane_tops ty) (lane_below ty) (low ty a) (low ty b)
unfolding lanes_of
sums I32 = sums_at_once 31 1
sums I16 = sums_at_once 15 2
sums I8 = sums_at_once 7 4

differences : (ty : LaneType) (a b : ℕ) → lanes_of Sub ty a b ≡ held_difference (lane_tops ty) (lane_below ty) (low ty a) (low ty b)
unfolding lanes_of
differences I32 = differences_at_once 31 1
differences I16 = differences_at_once 15 2
differences I8 = differences_at_once 7 4

-- what is done to the whole word at once
module _ (ty : LaneType) (a b : ℕ) (ha : a < 2 ^ 32) (hb : b < 2 ^ 32) where
  whole : (op : ℕ → ℕ → ℕ) → op (low ty a) (low ty b) ≡ op a b
  whole op = ap (λ (x : ℕ). op (a % 2 ^ x) (b % 2 ^ x)) (lanes_fill ty) ∙ ap₂ op (mod-eq_of_lt ha) (mod-eq_of_lt hb)

  pub lanes_of-sum : lanes_of Add ty a b ≡ held_sum (lane_tops ty) (lane_below ty) a b
  lanes_of-sum = sums ty a b ∙ whole (held_sum (lane_tops ty) (lane_below ty))

  pub lanes_of-difference : lanes_of Sub ty a b ≡ held_difference (lane_tops ty) (lane_below ty) a b
  lanes_of-difference = differences ty a b ∙ whole (held_difference (lane_tops ty) (lane_below ty))

  pub lanes_of_xor : lanes_of Xor ty a b ≡ bit_xor a b
  unfolding lanes_of
  lanes_of_xor = lanewise_xor (lane_bits ty) (lane_count ty) a b ∙ whole bit_xor

  pub lanes_of_and : lanes_of And ty a b ≡ bit_and a b
  unfolding lanes_of
  lanes_of_and = lanewise_and (lane_bits ty) (lane_count ty) a b ∙ whole bit_and

  pub lanes_of_or : lanes_of Or ty a b ≡ bit_or a b
  unfolding lanes_of
  lanes_of_or = lanewise_or (lane_bits ty) (lane_count ty) a b ∙ whole bit_or

-- a word of one lane is that lane
pub lanes_of_i32 : (op : LaneOp) (a b : ℕ) → a < 2 ^ 32 → b < 2 ^ 32 → lanes_of op I32 a b ≡ lane_of op I32 a b
unfolding lanes_of lanewise
lanes_of_i32 op a b ha hb = simp (div-one, mod-eq_of_lt ha, mod-eq_of_lt hb) (omega arith)

-- a word of two lanes is one of halves, and one of four is one of bytes
module _ (op : LaneOp) (a b : ℕ) where
  pub lanes_of_i16 : lanes_of op I16 a b ≡ word_of_halves (lane_of op I16 (word_half 0 a) (word_half 0 b)) (lane_of op I16 (word_half 1 a) (word_half 1 b))
  unfolding lanes_of lanewise
  lanes_of_i16 = omega arith

  pub lanes_of_i8 : lanes_of op I8 a b
      ≡ word_of (lane_of op I8 (byte_of 0 a) (byte_of 0 b)) (lane_of op I8 (byte_of 1 a) (byte_of 1 b))
      (lane_of op I8 (byte_of 2 a) (byte_of 2 b)) (lane_of op I8 (byte_of 3 a) (byte_of 3 b))
  unfolding lanes_of lanewise
  lanes_of_i8 = omega arith

-- the laws by which the whole word is worked on
pub ruleset whole_words = (lanes_of_xor, lanes_of_and, lanes_of_or, lanes_of_i32)
