-- Copies of words within a window, as if every source word had been read before any was written: each written word is the source's word
-- in the window as it `was`.
use Rattle.std.specs.Prelude.{List, ℕ, ◌+◌, ◌*◌}
use Rattle.memory.specs.Place.{word_at}
use Rattle.memory.specs.Rectangle.{words_put, pixels_put}

-- `words` words copied from `from` on to `to` on
unfoldable pub copied : ℕ → ℕ → ℕ → List ℕ → List ℕ
copied to from words was = words_put to words (λ i. word_at was (from + 4 * i)) was

-- a rectangle of pixels copied from `from` to `to`, with one stride for both sides
unfoldable pub blitted : ℕ → ℕ → ℕ → ℕ → ℕ → List ℕ → List ℕ
blitted to from stride width height was = pixels_put to stride width height (λ x y. word_at was (from + y * stride + 4 * x)) was
