-- One operation on the lanes of a word, lane 0 lowest.
use Rattle.std.specs.Prelude.{ℕ, zero, suc, ◌+◌, ◌*◌, ◌/◌, ◌%◌, ◌^◌}
use Rattle.words.specs.Arithmetic.{sum, difference, product}
use Rattle.words.specs.Bitwise.{xor_of, or_of, and_of}
use Rattle.words.specs.declared.lanes.LaneOp.{LaneOp}
use Rattle.words.specs.declared.lanes.LaneOp.TheVariants.{Add, Sub, Xor, And, Or, Mul}
use Rattle.words.specs.declared.lanes.LaneType.{LaneType}
use Rattle.words.specs.declared.lanes.LaneType.TheVariants.{I32, I16, I8}

-- lane i of a word, its lanes k bits wide
abbrev pub lane : ℕ → ℕ → ℕ → ℕ
lane k i w = w / 2 ^ (k * i) % 2 ^ k

-- n lanes of k bits: in each stands f of that lane of a and that lane of b
unfoldable pub lanewise : (ℕ → ℕ → ℕ) → ℕ → ℕ → ℕ → ℕ → ℕ
lanewise f k zero a b = 0
lanewise f k (suc n) a b = f (lane k n a) (lane k n b) * 2 ^ (k * n) + lanewise f k n a b

-- the bits of a lane, and how many lanes a word has
abbrev pub lane_bits : LaneType → ℕ
lane_bits I32 = 32
lane_bits I16 = 16
lane_bits I8 = 8

abbrev pub lane_count : LaneType → ℕ
lane_count ty = 32 / lane_bits ty

-- the operation on two lanes
abbrev pub lane_of : LaneOp → LaneType → ℕ → ℕ → ℕ
lane_of Add ty a b = sum (lane_bits ty) a b
lane_of Sub ty a b = difference (lane_bits ty) a b
lane_of Xor ty a b = xor_of a b
lane_of And ty a b = and_of a b
lane_of Or ty a b = or_of a b
lane_of Mul ty a b = product (lane_bits ty) a b

-- the operation on two words of lanes
unfoldable pub lanes_of : LaneOp → LaneType → ℕ → ℕ → ℕ
lanes_of op ty a b = lanewise (lane_of op ty) (lane_bits ty) (lane_count ty) a b
