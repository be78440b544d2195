-- What putting a byte keeps, every store, row of words, rectangle of pixels and transfer keeps.
-- Assumes nothing.
use mathlib.Core.List.{List}
use Prim.Native.Nat.{ℕ, ◌+◌, ◌*◌, ◌≤◌, ◌<◌, ◌^◌}
use native.Mathlib.Omega.{arith}
use lib.ListN.{length, get_or, set}
use Rattle.std.specs.Prelude.{Result, Ok, Err}
use Rattle.memory.specs.declared.address.Outside.{Outside}
use Rattle.memory.specs.declared.access.Width.{Width}
use Rattle.memory.specs.declared.access.Width.TheVariants.{Byte, Half, Word}
use Rattle.memory.specs.declared.quad.Quad.{Quad}
use Rattle.memory.specs.Address.{reach_of, if_inside}
use Rattle.memory.specs.Place.{with_byte, with_half, with_word}
use Rattle.memory.specs.Access.{bytes_of, with_value, store_of}
use Rattle.memory.specs.Quad.{quad_word, with_quad, store_quad_of}
use Rattle.memory.specs.Rectangle.{words_put, pixels_put}
use Rattle.memory.specs.Transfer.{transferred}
use Rattle.memory.proofs.After.{after-keeps}

-- a byte put anywhere from `low` on and before `high` keeps P
abbrev pub Keeps : (List ℕ → Type 0) → ℕ → ℕ → Type 0
Keeps P low high = (j b : ℕ) (x : List ℕ) → low ≤ j → j < high → b < 2 ^ 8 → P x → P (set x j b)

-- the choice by reach keeps what both sides have
pub if_inside-keeps : (P : List ℕ → Type 0) (r : Result Unit Outside) (x y : List ℕ) → P x → P y → P (if_inside r x (λ o. y))
unfolding if_inside
if_inside-keeps P (Ok u) x y hx hy = hx
if_inside-keeps P (Err o) x y hx hy = hy

module _ (P : List ℕ → Type 0) where
  -- fewer places keep what more places keep
  pub keeps_within : (low high low' high' : ℕ) → low ≤ low' → high' ≤ high → Keeps P low high → Keeps P low' high'
  keeps_within low high low' high' l h keeps j b x above below = keeps j b x (omega arith) (omega arith)

  pub with_byte-keeps : (m : List ℕ) (a v : ℕ) → Keeps P a (a + 1) → P m → P (with_byte m a v)
  unfolding with_byte
  with_byte-keeps m a v keeps h = keeps a _ m (omega arith) (omega arith) (omega arith) h

  pub with_half-keeps : (m : List ℕ) (a v : ℕ) → Keeps P a (a + 2) → P m → P (with_half m a v)
  unfolding with_half
  with_half-keeps m a v keeps h =
      keeps (a + 1) _ _ (omega arith) (omega arith) (omega arith)
      (keeps a _ m (omega arith) (omega arith) (omega arith) h)

  pub with_word-keeps : (m : List ℕ) (a v : ℕ) → Keeps P a (a + 4) → P m → P (with_word m a v)
  unfolding with_word
  with_word-keeps m a v keeps h =
      keeps (a + 3) _ _ (omega arith) (omega arith) (omega arith)
      (keeps (a + 2) _ _ (omega arith) (omega arith) (omega arith)
      (keeps (a + 1) _ _ (omega arith) (omega arith) (omega arith)
      (keeps a _ m (omega arith) (omega arith) (omega arith) h)))

  pub with_value-keeps : (m : List ℕ) (width : Width) (a v : ℕ) → Keeps P a (a + bytes_of width) → P m → P (with_value m width a v)
  unfolding with_value
  with_value-keeps m Byte a v keeps h = with_byte-keeps m a v keeps h
  with_value-keeps m Half a v keeps h = with_half-keeps m a v keeps h
  with_value-keeps m Word a v keeps h = with_word-keeps m a v keeps h

  pub store_keeps : (m : List ℕ) (width : Width) (a v : ℕ) → Keeps P a (a + bytes_of width) → P m → P (store_of m width a v)
  unfolding store_of
  store_keeps m width a v keeps h = if_inside-keeps P (reach_of (length m) a (bytes_of width)) _ _ (with_value-keeps m width a v keeps h) h

  pub words_put-keeps : (address count : ℕ) (word : ℕ → ℕ) (m : List ℕ) → Keeps P address (address + 4 * count) → P m
      → P (words_put address count word m)
  unfolding words_put
  words_put-keeps address count word m keeps h =
      after-keeps _ P count m
      (λ i m' below. with_word-keeps m' (address + 4 * i) (word i) (keeps_within address (address + 4 * count) _ _ (omega arith) (omega arith) keeps))
      h

  pub with_quad-keeps : (m : List ℕ) (a : ℕ) (q : Quad) → Keeps P a (a + 16) → P m → P (with_quad m a q)
  unfolding with_quad
  with_quad-keeps m a q keeps h = words_put-keeps a 4 (quad_word q) m keeps h

  pub store_quad_keeps : (m : List ℕ) (a : ℕ) (q : Quad) → Keeps P a (a + 16) → P m → P (store_quad_of m a q)
  unfolding store_quad_of
  store_quad_keeps m a q keeps h = if_inside-keeps P (reach_of (length m) a 16) _ _ (with_quad-keeps m a q keeps h) h

  pub pixels_put-keeps : (address stride width height : ℕ) (pixel : ℕ → ℕ → ℕ) (m : List ℕ)
      → ((y : ℕ) → y < height → Keeps P (address + y * stride) (address + y * stride + 4 * width)) → P m
      → P (pixels_put address stride width height pixel m)
  unfolding pixels_put
  pixels_put-keeps address stride width height pixel m keeps h =
      after-keeps _ P height m (λ y m' below. words_put-keeps (address + y * stride) width (λ x. pixel x y) m' (keeps y below)) h

  -- of a transfer each byte put is the source's
  pub transferred-keeps : (source : List ℕ) (start at n : ℕ) (m : List ℕ)
      → ((i : ℕ) (x : List ℕ) → i < n → P x → P (set x (at + i) (get_or source (start + i) 0))) → P m → P (transferred source start at n m)
  unfolding transferred
  transferred-keeps source start at n m step h = after-keeps _ P n m step h
