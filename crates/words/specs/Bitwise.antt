-- The bitwise operations. A law gives each bit of a result from the same bit of the two numbers.
use Rattle.std.specs.Prelude.{ℕ, bit_and, bit_or, bit_xor}

-- a bit is set if it is set in just one of the two
abbrev pub xor_of : ℕ → ℕ → ℕ
xor_of = bit_xor

-- a bit is set if it is set in one of the two or in both
abbrev pub or_of : ℕ → ℕ → ℕ
or_of = bit_or

-- a bit is set if it is set in both
abbrev pub and_of : ℕ → ℕ → ℕ
and_of = bit_and
