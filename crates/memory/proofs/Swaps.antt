-- What is put in places that lie apart may be put in either order.
-- Assumes nothing.
use mathlib.Core.Path.{◌≡◌, sym}
use mathlib.Core.List.{List}
use Prim.Native.Nat.{ℕ, ◌+◌, ◌*◌, ◌≤◌}
use native.Mathlib.Omega.{arith}
use lib.ListN.{set}
use lib.Seq.{set_comm}
use Rattle.memory.specs.Place.{with_word}
use Rattle.memory.specs.Rectangle.{words_put}
use Rattle.memory.proofs.After.{after_swap}

-- a byte and a word before it
with_word-set : (m : List ℕ) (a v j b : ℕ) → a + 4 ≤ j → with_word (set m j b) a v ≡ set (with_word m a v) j b
unfolding with_word
with_word-set m a v j b before =
    rw (
      set_comm m j a b _ (λ e. omega arith),
      set_comm _ j (a + 1) b _ (λ e. omega arith),
      set_comm _ j (a + 2) b _ (λ e. omega arith),
      set_comm _ j (a + 3) b _ (λ e. omega arith),
    )

-- four bytes and a word before them
with_word_sets : (m : List ℕ) (a u b v0 v1 v2 v3 : ℕ) → a + 4 ≤ b
    → with_word (set (set (set (set m b v0) (b + 1) v1) (b + 2) v2) (b + 3) v3) a u
    ≡ set (set (set (set (with_word m a u) b v0) (b + 1) v1) (b + 2) v2) (b + 3) v3
with_word_sets m a u b v0 v1 v2 v3 before =
    rw (
      with_word-set _ a u (b + 3) v3 (omega arith),
      with_word-set _ a u (b + 2) v2 (omega arith),
      with_word-set _ a u (b + 1) v1 (omega arith),
      with_word-set _ a u b v0 (omega arith),
    )

-- two words
pub with_word_swap : (m : List ℕ) (a u b v : ℕ) → a + 4 ≤ b → with_word (with_word m b v) a u ≡ with_word (with_word m a u) b v
unfolding with_word
with_word_swap m a u b v before = with_word_sets m a u b _ _ _ _ before

-- two rows of words
pub words_put_swap : (a b count : ℕ) (u v : ℕ → ℕ) (m : List ℕ) → a + 4 * count ≤ b
    → words_put a count u (words_put b count v m) ≡ words_put b count v (words_put a count u m)
unfolding words_put
words_put_swap a b count u v m before =
    after_swap (λ i x. with_word x (a + 4 * i) (u i)) (words_put b count v) count m
    (λ i x below. sym (after_swap (λ j y. with_word y (b + 4 * j) (v j)) (λ y. with_word y (a + 4 * i) (u i)) count x
    (λ j y below'. sym (with_word_swap y (a + 4 * i) (u i) (b + 4 * j) (v j) (omega arith)))))
