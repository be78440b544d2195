-- A copy is its words, or its rows, in rising or in falling order: one turn more puts the next word or row of the window as it was, and
-- all turns make the copy.
-- Assumes nothing.
use mathlib.Core.Path.{◌≡◌, sym, ◌∙◌}
use mathlib.Core.List.{List}
use Prim.Native.Nat.{ℕ, ◌+◌, ◌*◌, ◌≤◌, ◌<◌}
use native.Mathlib.Omega.{arith}
use Rattle.memory.specs.Place.{word_at, with_word}
use Rattle.memory.specs.Rectangle.{RowsApart, words_put, pixels_put}
use Rattle.memory.specs.Copy.{copied, blitted}
use Rattle.memory.proofs.After.{after_more}
use Rattle.memory.proofs.Rows.{row-after}
use Rattle.memory.proofs.Put.{words_put-agree}
use Rattle.memory.proofs.Kept.{with_word-keeps, words_put-keeps}
use Rattle.memory.proofs.Swaps.{with_word_swap, words_put_swap}
use Rattle.memory.proofs.Order.{at_turn, ordered, ordered_all, source_kept}

-- word i of a copy put in its place
abbrev pub word_put : ℕ → ℕ → List ℕ → ℕ → List ℕ → List ℕ
word_put to from m i x = with_word x (to + 4 * i) (word_at m (from + 4 * i))

-- row y of a copy put in its place
abbrev pub row_put : ℕ → ℕ → ℕ → ℕ → List ℕ → ℕ → List ℕ → List ℕ
row_put to from stride width m y = words_put (to + y * stride) width (λ x. word_at m (from + y * stride + 4 * x))

module _ (to from words : ℕ) (m : List ℕ) where
  pub word_turns : ordered to from words (word_put to from m) words m ≡ copied to from words m
  unfolding copied words_put
  word_turns = ordered_all to from words (word_put to from m) m (λ i j x low high. with_word_swap x (to + 4 * i) _ (to + 4 * j) _ (omega arith))

  pub word-turn : (i k word : ℕ) (x : List ℕ) → i < words → k ≡ at_turn to from words i → x ≡ ordered to from words (word_put to from m) i m
      → word ≡ word_at x (from + 4 * k) → with_word x (to + 4 * k) word ≡ ordered to from words (word_put to from m) (i + 1) m
  word-turn i k word x below is-k is_x is_word = rw (is_word, is-k, is_x, kept) (sym (after_more _ i m))
    where
      kept : word_at (ordered to from words (word_put to from m) i m) (from + 4 * at_turn to from words i) ≡ word_at m (from + 4 * at_turn to from words i)
      kept =
          source_kept to from words 4 (λ j. 4 * j) (λ j l less in_words_lem. omega arith)
          (word_put to from m) (λ P j z keeps h. with_word-keeps P z _ _ keeps h) i _ m below (omega arith) (omega arith)

module _ (to from stride width height : ℕ) (m : List ℕ) (some : 0 < width) (apart : RowsApart stride width height) where
  wide : 0 < height → 4 * width ≤ stride
  unfolding RowsApart
  wide rows = apart some rows

  pub row_turns : ordered to from height (row_put to from stride width m) height m ≡ blitted to from stride width height m
  unfolding blitted pixels_put
  row_turns =
      ordered_all to from height (row_put to from stride width m) m
      (λ i j x low high. words_put_swap _ _ width _ _ x (omega (arith, row-after stride width i j (wide (omega arith)) low)))

  pub row-turn : (i k : ℕ) (x : List ℕ) → i < height → k ≡ at_turn to from height i → x ≡ ordered to from height (row_put to from stride width m) i m
      → copied (to + k * stride) (from + k * stride) width x ≡ ordered to from height (row_put to from stride width m) (i + 1) m
  unfolding copied
  row-turn i k x below is-k is_x = rw (is-k, is_x) (words_put-agree _ width _ _ _ kept ∙ sym (after_more _ i m))
    where
      kept : (j : ℕ) → j < width
          → word_at (ordered to from height (row_put to from stride width m) i m) (from + at_turn to from height i * stride + 4 * j)
          ≡ word_at m (from + at_turn to from height i * stride + 4 * j)
      kept j in_row =
          source_kept to from height (4 * width) (λ y. y * stride) (λ y z less in-height. row-after stride width y z (wide (omega arith)) less)
          (row_put to from stride width m) (λ P y z keeps h. words_put-keeps P _ width _ z keeps h) i _ m below (omega arith) (omega arith)
