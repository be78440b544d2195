-- Every byte outside what is written is as it was. `Pixels` and `Overlaps` say it of fills and copies pixel by pixel.
-- Assumes nothing.
use mathlib.Core.Path.{◌≡◌, refl, ◌∙◌}
use mathlib.Core.List.{List}
use mathlib.Core.Logic.{◌⊎◌, inl, inr, ⊎_elim}
use Prim.Native.Nat.{ℕ, ◌+◌, ◌*◌, ◌≤◌, ◌<◌}
use native.Mathlib.Omega.{arith}
use lib.ListN.{get_or, set}
use lib.Seq.{get_or-set_other}
use Rattle.memory.specs.declared.access.Width.{Width}
use Rattle.memory.specs.declared.quad.Quad.{Quad}
use Rattle.memory.specs.Place.{word_at}
use Rattle.memory.specs.Access.{bytes_of, store_of}
use Rattle.memory.specs.Quad.{store_quad_of}
use Rattle.memory.specs.Rectangle.{words_put, pixels_put}
use Rattle.memory.specs.Copy.{copied}
use Rattle.memory.specs.Transfer.{transferred}
use Rattle.memory.proofs.Kept as kept

-- place i is not among those from `low` on and before `high`
abbrev pub Apart : ℕ → ℕ → ℕ → Type 0
Apart i low high = (i < low) ⊎ (high ≤ i)

apart_ne : (i low high j : ℕ) → Apart i low high → low ≤ j → j < high → i ≡ j → ⊥
apart_ne i low high j apart l u e = ⊎_elim (λ (h : i < low). omega arith) (λ (h : high ≤ i). omega arith) apart

-- place i is in no row of a rectangle
abbrev pub InNoRow : ℕ → ℕ → ℕ → ℕ → ℕ → Type 0
InNoRow i address stride width height = (y : ℕ) → y < height → Apart i (address + y * stride) (address + y * stride + 4 * width)

module _ (m : List ℕ) (i : ℕ) where
  -- byte i is as it was
  abbrev pub Same : List ℕ → Type 0
  Same x = get_or x i 0 ≡ get_or m i 0

  pub keeps_other : (low high : ℕ) → Apart i low high → kept.Keeps Same low high
  keeps_other low high apart j b x l u s h = get_or-set_other x j i b 0 (apart_ne i low high j apart l u) ∙ h

  pub store_other : (width : Width) (a v : ℕ) → Apart i a (a + bytes_of width) → Same (store_of m width a v)
  store_other width a v apart = kept.store_keeps Same m width a v (keeps_other _ _ apart) refl

  pub store_quad_other : (a : ℕ) (q : Quad) → Apart i a (a + 16) → Same (store_quad_of m a q)
  store_quad_other a q apart = kept.store_quad_keeps Same m a q (keeps_other _ _ apart) refl

  words_put_other : (address count : ℕ) (word : ℕ → ℕ) → Apart i address (address + 4 * count) → Same (words_put address count word m)
  words_put_other address count word apart = kept.words_put-keeps Same address count word m (keeps_other _ _ apart) refl

  pub pixels_put_other : (address stride width height : ℕ) (pixel : ℕ → ℕ → ℕ) → InNoRow i address stride width height
      → Same (pixels_put address stride width height pixel m)
  pixels_put_other address stride width height pixel apart =
      kept.pixels_put-keeps Same address stride width height pixel m (λ y b. keeps_other _ _ (apart y b)) refl

  pub copied_other : (to from words : ℕ) → Apart i to (to + 4 * words) → Same (copied to from words m)
  unfolding copied
  copied_other to from words apart = words_put_other to words _ apart

  pub transferred_other : (source : List ℕ) (start at n : ℕ) → Apart i at (at + n) → Same (transferred source start at n m)
  transferred_other source start at n apart =
      kept.transferred-keeps Same source start at n m
      (λ k x b h. get_or-set_other x (at + k) i _ 0 (apart_ne i at (at + n) (at + k) apart (omega arith) (omega arith)) ∙ h)
      refl

-- a word whose bytes are as they were is as it was
pub word_same : (m m' : List ℕ) (a : ℕ) → ((j : ℕ) → a ≤ j → j < a + 4 → get_or m' j 0 ≡ get_or m j 0) → word_at m' a ≡ word_at m a
unfolding word_at
word_same m m' a same =
    rw (
      same a (omega arith) (omega arith),
      same (a + 1) (omega arith) (omega arith),
      same (a + 2) (omega arith) (omega arith),
      same (a + 3) (omega arith) (omega arith),
    )

-- a byte put beside a word keeps it
pub keeps-word : (a v low high : ℕ) → (a + 4 ≤ low) ⊎ (high ≤ a) → kept.Keeps (λ x. word_at x a ≡ v) low high
keeps-word a v low high apart j b x l u s h =
    word_same x (set x j b) a
    (λ k from to. get_or-set_other x j k b 0
    (apart_ne k low high j (⊎_elim (λ (h : a + 4 ≤ low). inl (omega arith)) (λ (h : high ≤ a). inr (omega arith)) apart) l u))
    ∙ h
