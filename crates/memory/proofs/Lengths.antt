-- Nothing that is done to a window changes its length, wherever the bytes lie.
-- Assumes nothing.
use mathlib.Core.Path.{◌≡◌, refl, ◌∙◌}
use mathlib.Core.List.{List}
use Prim.Native.Nat.{ℕ}
use lib.ListN.{length, length-set}
use Rattle.memory.specs.declared.access.Width.{Width}
use Rattle.memory.specs.declared.quad.Quad.{Quad}
use Rattle.memory.specs.Access.{store_of}
use Rattle.memory.specs.Quad.{store_quad_of}
use Rattle.memory.specs.Rectangle.{words_put, pixels_put, filled}
use Rattle.memory.specs.Copy.{copied, blitted}
use Rattle.memory.specs.Transfer.{transferred}
use Rattle.memory.proofs.Kept as kept

module _ (m : List ℕ) where
  abbrev Long : List ℕ → Type 0
  Long x = length x ≡ length m

  keeps : (low high : ℕ) → kept.Keeps Long low high
  keeps low high j b x l u s h = length-set x j b ∙ h

  pub store_length : (width : Width) (a v : ℕ) → length (store_of m width a v) ≡ length m
  store_length width a v = kept.store_keeps Long m width a v (keeps _ _) refl

  pub store_quad_length : (a : ℕ) (q : Quad) → length (store_quad_of m a q) ≡ length m
  store_quad_length a q = kept.store_quad_keeps Long m a q (keeps _ _) refl

  pub words_put-length : (address count : ℕ) (word : ℕ → ℕ) → length (words_put address count word m) ≡ length m
  words_put-length address count word = kept.words_put-keeps Long address count word m (keeps _ _) refl

  pub pixels_put-length : (address stride width height : ℕ) (pixel : ℕ → ℕ → ℕ) → length (pixels_put address stride width height pixel m) ≡ length m
  pixels_put-length address stride width height pixel = kept.pixels_put-keeps Long address stride width height pixel m (λ y b. keeps _ _) refl

  pub filled-length : (address stride width height color : ℕ) → length (filled address stride width height color m) ≡ length m
  unfolding filled
  filled-length address stride width height color = pixels_put-length address stride width height _

  pub copied-length : (to from words : ℕ) → length (copied to from words m) ≡ length m
  unfolding copied
  copied-length to from words = words_put-length to words _

  pub blitted-length : (to from stride width height : ℕ) → length (blitted to from stride width height m) ≡ length m
  unfolding blitted
  blitted-length to from stride width height = pixels_put-length to stride width height _

  pub transferred-length : (source : List ℕ) (start at n : ℕ) → length (transferred source start at n m) ≡ length m
  transferred-length source start at n = kept.transferred-keeps Long source start at n m (λ i x b h. length-set x _ _ ∙ h) refl
