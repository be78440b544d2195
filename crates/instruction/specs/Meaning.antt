-- What the operations give, on the values of their operands.
use Rattle.std.specs.Prelude.{ℕ, Bool}
use Rattle.words.specs.Bitwise.{xor_of, or_of, and_of}
use Rattle.words.specs.Arithmetic.{sum, difference, product, shifted_left, shifted_right, shifted_signed, least, greatest, magnitude}
use Rattle.words.specs.Counts.{clz_of, ctz_of}
use Rattle.words.specs.Compare.{same, different, at_least_signed, below_unsigned, at_least_unsigned}
use Rattle.words.specs.Signed.{below_signed}
use Rattle.instruction.specs.declared.list.AluOp.{AluOp}
use Rattle.instruction.specs.declared.list.AluOp.TheVariants.{Add, Sub, Mul, Shl, Lsr, Asr, Min, Max, Xor, Or, And}
use Rattle.instruction.specs.declared.list.UnaryOp.{UnaryOp}
use Rattle.instruction.specs.declared.list.UnaryOp.TheVariants.{Abs, Clz, Ctz}
use Rattle.instruction.specs.declared.list.Cond.{Cond}
use Rattle.instruction.specs.declared.list.Cond.TheVariants.{Eq, Ne, Lt, Ge, Ltu, Geu}

-- two operands
unfoldable pub alu_of : AluOp → ℕ → ℕ → ℕ
alu_of Add x y = sum 32 x y
alu_of Sub x y = difference 32 x y
alu_of Mul x y = product 32 x y
alu_of Shl x y = shifted_left x y
alu_of Lsr x y = shifted_right x y
alu_of Asr x y = shifted_signed x y
alu_of Min x y = least x y
alu_of Max x y = greatest x y
alu_of Xor x y = xor_of x y
alu_of Or x y = or_of x y
alu_of And x y = and_of x y

-- one operand
unfoldable pub unary_of : UnaryOp → ℕ → ℕ
unary_of Abs x = magnitude x
unary_of Clz x = clz_of x
unary_of Ctz x = ctz_of x

-- MIN, MAX, BLT and BGE compare signed numbers, BLTU and BGEU unsigned
unfoldable pub holds_of : Cond → ℕ → ℕ → Bool
holds_of Eq x y = same x y
holds_of Ne x y = different x y
holds_of Lt x y = below_signed x y
holds_of Ge x y = at_least_signed x y
holds_of Ltu x y = below_unsigned x y
holds_of Geu x y = at_least_unsigned x y
