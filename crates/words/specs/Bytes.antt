-- Halves and words of little-endian bytes.
use Rattle.std.specs.Prelude.{ℕ, ◌+◌, ◌*◌, ◌/◌, ◌%◌, ◌^◌}

-- the half of two bytes, the lowest first
abbrev pub half_of : ℕ → ℕ → ℕ
half_of b0 b1 = b0 + b1 * 2 ^ 8

-- the word of four bytes, the lowest first
abbrev pub word_of : ℕ → ℕ → ℕ → ℕ → ℕ
word_of b0 b1 b2 b3 = b0 + b1 * 2 ^ 8 + b2 * 2 ^ 16 + b3 * 2 ^ 24

-- byte k of a word, 0 the lowest
abbrev pub byte_of : ℕ → ℕ → ℕ
byte_of k w = w / 2 ^ (8 * k) % 2 ^ 8
