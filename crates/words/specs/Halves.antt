-- The two halves of a word.
use Rattle.std.specs.Prelude.{ℕ, ◌+◌, ◌*◌, ◌/◌, ◌%◌, ◌^◌}

-- the word of two halves, the lowest first
abbrev pub word_of_halves : ℕ → ℕ → ℕ
word_of_halves h0 h1 = h0 + h1 * 2 ^ 16

-- half k of a word, 0 the lowest
abbrev pub word_half : ℕ → ℕ → ℕ
word_half k w = w / 2 ^ (16 * k) % 2 ^ 16
