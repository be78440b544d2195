-- What a copy means, whichever way its two sides overlap. That bytes outside the destination stay is, of words in a row,
-- `Others.copied_other`.
-- Assumes nothing.
use mathlib.Core.Path.{◌≡◌, refl, ap, ◌∙◌}
use mathlib.Core.List.{List}
use Prim.Native.Nat.{ℕ, ◌+◌, ◌*◌, ◌≤◌, ◌<◌}
use lib.ListN.{length, get_or}
use lib.Seq.{set-get_or}
use Rattle.words.proofs.ByteLaws.{byte_0_of_word, byte_1_of_word, byte_2_of_word, byte_3_of_word}
use Rattle.memory.specs.Place.{word_at, with_word}
use Rattle.memory.specs.Rectangle.{rectangle_end, RowsApart, words_put, pixels_put}
use Rattle.memory.specs.Copy.{copied, blitted}
use Rattle.memory.proofs.After.{after-keeps}
use Rattle.memory.proofs.Places.{Bytes, word_fits}
use Rattle.memory.proofs.Pixels.{words_put-word, pixels_put_pixel, InNoPixel, pixels_put_no_pixel}

-- a word put where it stands changes nothing
own-word : (m : List ℕ) (a : ℕ) → Bytes m → with_word m a (word_at m a) ≡ m
unfolding with_word word_at
own-word m a bytes =
    let h0 = bytes a in
    let h1 = bytes (a + 1) in
    let h2 = bytes (a + 2) in
    let h3 = bytes (a + 3) in
    let b0 = byte_0_of_word h0 h1 h2 h3 in
    let b1 = byte_1_of_word h0 h1 h2 h3 in
    let b2 = byte_2_of_word h0 h1 h2 h3 in
    let b3 = byte_3_of_word h0 h1 h2 h3 in
    rw (b0, set-get_or m a 0, b1, set-get_or m (a + 1) 0, b2, set-get_or m (a + 2) 0, b3, set-get_or m (a + 3) 0)

module _ (m : List ℕ) (bytes : Bytes m) where
  -- word i of the destination reads what word i of the source read before
  pub copied-word : (to from words i : ℕ) → to + 4 * words ≤ length m → i < words
      → word_at (copied to from words m) (to + 4 * i) ≡ word_at m (from + 4 * i)
  unfolding copied
  copied-word to from words i inside below = words_put-word to words i _ m (word_fits m _ bytes) inside below

  -- so does pixel (x, y)
  pub blitted_pixel : (to from stride width height x y : ℕ) → RowsApart stride width height → rectangle_end to stride width height ≤ length m
      → x < width → y < height
      → word_at (blitted to from stride width height m) (to + y * stride + 4 * x) ≡ word_at m (from + y * stride + 4 * x)
  unfolding blitted
  blitted_pixel to from stride width height x y apart inside hx hy =
      pixels_put_pixel to stride width height m _ x y (word_fits m _ bytes) apart inside hx hy

  own-words : (place words : ℕ) → words_put place words (λ i. word_at m (place + 4 * i)) m ≡ m
  unfolding words_put
  own-words place words =
      after-keeps _ (λ x. x ≡ m) words m
      (λ i x below same. ap (λ z. with_word z (place + 4 * i) (word_at m (place + 4 * i))) same ∙ own-word m _ bytes)
      refl

  -- a copy onto itself changes nothing
  pub copied_onto_itself : (place words : ℕ) → copied place place words m ≡ m
  unfolding copied
  copied_onto_itself place words = own-words place words

  pub blitted_onto_itself : (place stride width height : ℕ) → blitted place place stride width height m ≡ m
  unfolding blitted pixels_put
  blitted_onto_itself place stride width height =
      after-keeps _ (λ x. x ≡ m) height m
      (λ y x below same. ap (words_put (place + y * stride) width (λ i. word_at m (place + y * stride + 4 * i))) same ∙ own-words (place + y * stride) width)
      refl

-- a byte of no pixel of the destination is as it was
pub blitted_no_pixel : (to from stride width height i : ℕ) (m : List ℕ) → InNoPixel i to stride width height
    → get_or (blitted to from stride width height m) i 0 ≡ get_or m i 0
unfolding blitted
blitted_no_pixel to from stride width height i m none = pixels_put_no_pixel to stride width height m _ i none
