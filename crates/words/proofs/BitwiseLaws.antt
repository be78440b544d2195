-- Each bit of a bitwise result depends on the same bit of the two numbers alone.
-- Assumes nothing.
use Rattle.std.proofs.Common.{◌≡◌, ℕ, zero, suc, ◌+◌, ◌*◌, ◌/◌, ◌%◌, ◌^◌, ◌<◌, min, max, ◌∙◌, mod-lt, arith}
use Rattle.std.proofs.lemmas.Nat.Bits.{bit_at_xor, bit_at_or, bit_at_and}
use Rattle.words.specs.Bitwise.{xor_of, or_of, and_of}
use Rattle.words.specs.Counts.{bit}

least_is_product : (x y : ℕ) → x < 2 → y < 2 → min x y ≡ x * y
least_is_product zero y hx hy = omega arith
least_is_product (suc zero) y hx hy = omega arith
least_is_product (suc (suc x)) y hx hy = absurd (omega arith)

module _ (i a b : ℕ) where
  lowest : (n : ℕ) → n % 2 < 2
  lowest n = mod-lt n (omega arith)

  pub xor_bit : bit i (xor_of a b) ≡ (bit i a + bit i b) % 2
  xor_bit = bit_at_xor a b i

  pub or_bit : bit i (or_of a b) ≡ max (bit i a) (bit i b)
  or_bit = bit_at_or a b i

  pub and_bit : bit i (and_of a b) ≡ bit i a * bit i b
  and_bit = bit_at_and a b i ∙ least_is_product (bit i a) (bit i b) (lowest (a / 2 ^ i)) (lowest (b / 2 ^ i))
