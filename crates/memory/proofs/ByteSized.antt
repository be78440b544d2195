-- A window of bytes stays one: every number below 256 stays below 256.
-- Assumes nothing.
use mathlib.Core.Path.{◌≡◌}
use mathlib.Core.List.{List}
use Prim.Native.Nat.{ℕ, ◌+◌, ◌<◌, ◌^◌}
use native.Mathlib.Decide.{ℕ_discrete, dec_lt}
use native.Mathlib.Omega.{arith}
use lib.ListN.{length, get_or, set}
use lib.Seq.{get_or-set_same, get_or-set_other, set_out}
use Rattle.memory.specs.declared.access.Width.{Width}
use Rattle.memory.specs.declared.quad.Quad.{Quad}
use Rattle.memory.specs.Access.{store_of}
use Rattle.memory.specs.Quad.{store_quad_of}
use Rattle.memory.specs.Rectangle.{words_put, pixels_put, filled}
use Rattle.memory.specs.Copy.{copied, blitted}
use Rattle.memory.specs.Transfer.{transferred}
use Rattle.memory.proofs.Places.{Bytes}
use Rattle.memory.proofs.Kept as kept

pub set-bytes : (x : List ℕ) (j b : ℕ) → b < 2 ^ 8 → Bytes x → Bytes (set x j b)
set-bytes x j b small bytes i = go (ℕ_discrete i j) (dec_lt j (length x))
  where
    go : Dec (i ≡ j) → Dec (j < length x) → get_or (set x j b) i 0 < 2 ^ 8
    go (yes e) (yes l) = rw (e, get_or-set_same x j b 0 l) small
    go (yes e) (no l) = rw (set_out x j b (omega arith)) (bytes i)
    go (no e) (yes l) = rw (get_or-set_other x j i b 0 e) (bytes i)
    go (no e) (no l) = rw (get_or-set_other x j i b 0 e) (bytes i)

keeps : (low high : ℕ) → kept.Keeps Bytes low high
keeps low high j b x l u small h = set-bytes x j b small h

module _ (m : List ℕ) (bytes : Bytes m) where
  pub store_bytes : (width : Width) (a v : ℕ) → Bytes (store_of m width a v)
  store_bytes width a v = kept.store_keeps Bytes m width a v (keeps _ _) bytes

  pub store_quad_bytes : (a : ℕ) (q : Quad) → Bytes (store_quad_of m a q)
  store_quad_bytes a q = kept.store_quad_keeps Bytes m a q (keeps _ _) bytes

  words_put-bytes : (address count : ℕ) (word : ℕ → ℕ) → Bytes (words_put address count word m)
  words_put-bytes address count word = kept.words_put-keeps Bytes address count word m (keeps _ _) bytes

  pixels_put-bytes : (address stride width height : ℕ) (pixel : ℕ → ℕ → ℕ) → Bytes (pixels_put address stride width height pixel m)
  pixels_put-bytes address stride width height pixel = kept.pixels_put-keeps Bytes address stride width height pixel m (λ y b. keeps _ _) bytes

  pub filled-bytes : (address stride width height color : ℕ) → Bytes (filled address stride width height color m)
  unfolding filled
  filled-bytes address stride width height color = pixels_put-bytes address stride width height _

  pub copied-bytes : (to from words : ℕ) → Bytes (copied to from words m)
  unfolding copied
  copied-bytes to from words = words_put-bytes to words _

  pub blitted-bytes : (to from stride width height : ℕ) → Bytes (blitted to from stride width height m)
  unfolding blitted
  blitted-bytes to from stride width height = pixels_put-bytes to stride width height _

  pub transferred-bytes : (source : List ℕ) (start at n : ℕ) → Bytes source → Bytes (transferred source start at n m)
  transferred-bytes source start at n small = kept.transferred-keeps Bytes source start at n m (λ i x b h. set-bytes x _ _ (small (start + i)) h) bytes
