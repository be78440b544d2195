-- A word is the word of its bytes, and these are those it was made of.
-- Assumes nothing.
use Rattle.std.proofs.Common.{◌≡◌, ℕ, ◌+◌, ◌*◌, ◌%◌, ◌^◌, ◌<◌, sym, ◌∙◌, mod-eq_of_lt, div-one, arith}
use Rattle.words.specs.Bytes.{word_of, byte_of}
use Rattle.words.proofs.LaneLaws.{one-lane-more}

pub word_of_its_bytes : (w : ℕ) → w < 2 ^ 32 → word_of (byte_of 0 w) (byte_of 1 w) (byte_of 2 w) (byte_of 3 w) ≡ w
word_of_its_bytes w h =
    added w (byte_of 0 w) (byte_of 1 w) (byte_of 2 w) (byte_of 3 w) (w % 2 ^ 16) (w % 2 ^ 24)
    (sym (mod-eq_of_lt h) ∙ one-lane-more 8 3 w) (one-lane-more 8 2 w) (rw div-one (one-lane-more 8 1 w))
  where
    added : (w b0 b1 b2 b3 m n : ℕ) → w ≡ b3 * 2 ^ 24 + n → n ≡ b2 * 2 ^ 16 + m → m ≡ b1 * 2 ^ 8 + b0 → word_of b0 b1 b2 b3 ≡ w
    added w b0 b1 b2 b3 m n p q r = omega arith

module _ {b0 b1 b2 b3 : ℕ} (h0 : b0 < 2 ^ 8) (h1 : b1 < 2 ^ 8) (h2 : b2 < 2 ^ 8) (h3 : b3 < 2 ^ 8) where
  pub byte_0_of_word : byte_of 0 (word_of b0 b1 b2 b3) ≡ b0
  byte_0_of_word = omega arith

  pub byte_1_of_word : byte_of 1 (word_of b0 b1 b2 b3) ≡ b1
  byte_1_of_word = omega arith

  pub byte_2_of_word : byte_of 2 (word_of b0 b1 b2 b3) ≡ b2
  byte_2_of_word = omega arith

  pub byte_3_of_word : byte_of 3 (word_of b0 b1 b2 b3) ≡ b3
  byte_3_of_word = omega arith
