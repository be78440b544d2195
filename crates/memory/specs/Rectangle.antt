-- Words put in a row, and pixels in a rectangle. A pixel is one word; pixel (x, y) lies at address + y·stride + 4·x.
use Rattle.std.specs.Prelude.{cond, List, ℕ, ◌+◌, ◌-◌, ◌*◌, ◌≤◌, ◌<◌, eqb}
use Rattle.memory.specs.After.{after}
use Rattle.memory.specs.Place.{with_word}

-- the end of a rectangle's bytes, not wrapped; a rectangle with width or height 0 has no bytes
unfoldable pub rectangle_end : ℕ → ℕ → ℕ → ℕ → ℕ
rectangle_end address stride width height =
    cond (eqb width 0) 0 (cond (eqb height 0) 0 (address + (height - 1) * stride + 4 * width))

-- no row reaches into the next: 4·width is at most the stride, if there are pixels
unfoldable pub RowsApart : ℕ → ℕ → ℕ → Type 0
RowsApart stride width height = 0 < width → 0 < height → 4 * width ≤ stride

-- `count` words put from `address` on, at number i the word `word i`
unfoldable pub words_put : ℕ → ℕ → (ℕ → ℕ) → List ℕ → List ℕ
words_put address count word = after (λ i m. with_word m (address + 4 * i) (word i)) count

-- a rectangle of pixels put, at (x, y) the pixel `pixel x y`
unfoldable pub pixels_put : ℕ → ℕ → ℕ → ℕ → (ℕ → ℕ → ℕ) → List ℕ → List ℕ
pixels_put address stride width height pixel = after (λ y. words_put (address + y * stride) width (λ x. pixel x y)) height

-- a rectangle of one color
unfoldable pub filled : ℕ → ℕ → ℕ → ℕ → ℕ → List ℕ → List ℕ
filled address stride width height color = pixels_put address stride width height (λ x y. color)
