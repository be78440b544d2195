-- What putting words and pixels means, one by one: each reads what was put there, and every byte of no pixel is as it was.
-- Assumes nothing.
use mathlib.Core.Path.{◌≡◌}
use mathlib.Core.List.{List}
use mathlib.Core.Logic.{inl, inr}
use Prim.Native.Nat.{ℕ, ◌+◌, ◌-◌, ◌*◌, ◌/◌, ◌≤◌, ◌<◌, ◌^◌}
use native.Mathlib.Decide.{dec_le, dec_lt}
use native.Mathlib.Omega.{arith}
use lib.ListN.{length, get_or}
use Rattle.memory.specs.Place.{word_at}
use Rattle.memory.specs.Rectangle.{rectangle_end, RowsApart, words_put, pixels_put, filled}
use Rattle.memory.proofs.After.{after-made}
use Rattle.memory.proofs.Places.{word_read_back}
use Rattle.memory.proofs.Rows.{row_inside, row-after}
use Rattle.memory.proofs.Kept.{with_word-keeps, words_put-keeps}
use Rattle.memory.proofs.Lengths.{words_put-length, pixels_put-length}
use Rattle.memory.proofs.Others.{Apart, InNoRow, keeps-word, pixels_put_other}

-- word i reads what was put there
pub words_put-word : (address count i : ℕ) (word : ℕ → ℕ) (m : List ℕ) → word i < 2 ^ 32 → address + 4 * count ≤ length m → i < count
    → word_at (words_put address count word m) (address + 4 * i) ≡ word i
unfolding words_put
words_put-word address count i word m small inside below =
    after-made _ (λ m'. word_at m' (address + 4 * i) ≡ word i) i count m below
    (word_read_back (words_put address i word m) (address + 4 * i) (word i) small (omega (arith, words_put-length m address i word)))
    (λ j m' low high. with_word-keeps _ m' (address + 4 * j) (word j) (keeps-word (address + 4 * i) (word i) _ _ (inl (omega arith))))

-- byte i belongs to pixel (x, y)
abbrev pub InPixel : ℕ → ℕ → ℕ → ℕ → ℕ → Type 0
InPixel i address stride x y = (address + y * stride + 4 * x ≤ i) × (i < address + y * stride + 4 * x + 4)

-- byte i belongs to no pixel of a rectangle
abbrev pub InNoPixel : ℕ → ℕ → ℕ → ℕ → ℕ → Type 0
InNoPixel i address stride width height = (x y : ℕ) → x < width → y < height → InPixel i address stride x y → ⊥

-- then it is in no row
in_no_row : (address stride width height i : ℕ) → InNoPixel i address stride width height → InNoRow i address stride width height
in_no_row address stride width height i none y h = go (dec_lt i (address + y * stride)) (dec_le (address + y * stride + 4 * width) i)
  where
    go : Dec (i < address + y * stride) → Dec (address + y * stride + 4 * width ≤ i) → Apart i (address + y * stride) (address + y * stride + 4 * width)
    go (yes b) (yes e) = inl b
    go (yes b) (no e) = inl b
    go (no b) (yes e) = inr e
    go (no b) (no e) = absurd (none ((i - (address + y * stride)) / 4) y (omega arith) h (omega arith))

module _ (address stride width height : ℕ) (m : List ℕ) where
  -- pixel (x, y) reads what was put there
  pub pixels_put_pixel : (pixel : ℕ → ℕ → ℕ) (x y : ℕ) → pixel x y < 2 ^ 32 → RowsApart stride width height
      → rectangle_end address stride width height ≤ length m → x < width → y < height
      → word_at (pixels_put address stride width height pixel m) (address + y * stride + 4 * x) ≡ pixel x y
  unfolding pixels_put RowsApart
  pixels_put_pixel pixel x y small apart inside hx hy =
      let wide = apart (omega arith) (omega arith) in
      let row = row_inside address stride width height y (length m) (omega arith) hy inside in
      after-made _ (λ m'. word_at m' (address + y * stride + 4 * x) ≡ pixel x y) y height m hy
      (words_put-word (address + y * stride) width x (λ x. pixel x y) (pixels_put address stride width y pixel m) small
      (omega (arith, pixels_put-length m address stride width y pixel)) hx)
      (λ z m' low high. words_put-keeps _ (address + z * stride) width (λ x. pixel x z) m'
      (keeps-word (address + y * stride + 4 * x) (pixel x y) _ _ (inl (omega (arith, row-after stride width y z wide low)))))

  -- of a fill it reads the color
  pub filled_pixel : (color x y : ℕ) → color < 2 ^ 32 → RowsApart stride width height
      → rectangle_end address stride width height ≤ length m → x < width → y < height
      → word_at (filled address stride width height color m) (address + y * stride + 4 * x) ≡ color
  unfolding filled
  filled_pixel color x y small apart inside hx hy = pixels_put_pixel (λ x y. color) x y small apart inside hx hy

  -- a byte of no pixel is as it was
  pub pixels_put_no_pixel : (pixel : ℕ → ℕ → ℕ) (i : ℕ) → InNoPixel i address stride width height
      → get_or (pixels_put address stride width height pixel m) i 0 ≡ get_or m i 0
  pixels_put_no_pixel pixel i none = pixels_put_other m i address stride width height pixel (in_no_row address stride width height i none)

  pub filled_no_pixel : (color i : ℕ) → InNoPixel i address stride width height → get_or (filled address stride width height color m) i 0 ≡ get_or m i 0
  unfolding filled
  filled_no_pixel color i none = pixels_put_no_pixel (λ x y. color) i none
