-- Loads and stores of four words, 16 bytes.
use Rattle.std.specs.Prelude.{List, [], ◌∷◌, ℕ, ◌+◌, ◌*◌, get_or, length, Result, Ok, Err}
use Rattle.memory.specs.declared.quad.Quad.{Quad}
use Rattle.memory.specs.declared.address.Outside.{Outside}
use Rattle.memory.specs.Address.{reach_of, if_inside}
use Rattle.memory.specs.Place.{word_at}
use Rattle.memory.specs.Rectangle.{words_put}

-- four words, by number
abbrev pub quad_by : (ℕ → ℕ) → Quad
quad_by word = record { words = word 0 ∷ word 1 ∷ word 2 ∷ word 3 ∷ [] }

-- word i of four
abbrev pub quad_word : Quad → ℕ → ℕ
quad_word q i = get_or q.words i 0

-- the four words from a on, the lowest first
unfoldable pub quad_at : List ℕ → ℕ → Quad
quad_at m a = quad_by (λ i. word_at m (a + 4 * i))

-- the window with the four words from a on
unfoldable pub with_quad : List ℕ → ℕ → Quad → List ℕ
with_quad m a q = words_put a 4 (quad_word q) m

-- a load's answer
unfoldable pub load_quad_of : List ℕ → ℕ → Result Quad Outside
load_quad_of m a = if_inside (reach_of (length m) a 16) (Ok (quad_at m a)) Err

-- the window after a store; it is as it was where the bytes do not lie inside
unfoldable pub store_quad_of : List ℕ → ℕ → Quad → List ℕ
store_quad_of m a q = if_inside (reach_of (length m) a 16) (with_quad m a q) (λ o. m)
