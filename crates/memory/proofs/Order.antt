-- The words or rows of a copy in rising or, if the destination lies higher, in falling order: what is written lies apart from what is
-- still to be read.
-- Assumes nothing.
use mathlib.Core.Path.{◌≡◌, refl}
use mathlib.Core.Bool.{Bool, true, false, cond}
use mathlib.Core.List.{List}
use mathlib.Core.Logic.{◌⊎◌, inl, inr, ⊎_elim}
use Prim.Native.Nat.{ℕ, ◌+◌, ◌-◌, ◌≤◌, ◌<◌}
use native.Mathlib.Omega.{arith}
use lib.Dec.{ltb}
use borrow.Author.Tests.{ltb-true, ltb-false}
use Rattle.memory.specs.After.{after}
use Rattle.memory.specs.Place.{word_at}
use Rattle.memory.proofs.After.{after-keeps, after_falling}
use Rattle.memory.proofs.Kept.{Keeps}
use Rattle.memory.proofs.Others.{keeps-word}

-- which of n comes at turn i, as the code's `at_turn` gives it
abbrev pub at_turn : ℕ → ℕ → ℕ → ℕ → ℕ
at_turn to from n i = cond (ltb from to) (n - 1 - i) i

-- k turns of n in this order
abbrev pub ordered : {A : Type 0} → ℕ → ℕ → ℕ → (ℕ → A → A) → ℕ → A → A
ordered to from n f k = after (λ i. f (at_turn to from n i)) k

-- in the end the order does not matter, if turns may be swapped
pub ordered_all : {A : Type 0} (to from n : ℕ) (f : ℕ → A → A) (m : A)
    → ((i j : ℕ) (x : A) → i < j → j < n → f i (f j x) ≡ f j (f i x)) → ordered to from n f n m ≡ after f n m
ordered_all to from n f m swap = go (ltb from to)
  where
    go : (falling : Bool) → after (λ i. f (cond falling (n - 1 - i) i)) n m ≡ after f n m
    go true = after_falling f n m swap
    go false = refl

-- `size` bytes for each of n, each after the one before
module _ (to from n size : ℕ) (offset : ℕ → ℕ) (rises : (k l : ℕ) → k < l → l < n → offset k + size ≤ offset l) where
  -- what was written before turn i is apart from what turn i reads
  written_apart : (i j : ℕ) → j < i → i < n
      → (from + offset (at_turn to from n i) + size ≤ to + offset (at_turn to from n j))
      ⊎ (to + offset (at_turn to from n j) + size ≤ from + offset (at_turn to from n i))
  written_apart i j before below = go (ltb from to) (λ e. ltb-true from to e) (λ e. ltb-false from to e)
    where
      go : (b : Bool) → (b ≡ true → from < to) → (b ≡ false → to ≤ from)
          → (from + offset (cond b (n - 1 - i) i) + size ≤ to + offset (cond b (n - 1 - j) j))
          ⊎ (to + offset (cond b (n - 1 - j) j) + size ≤ from + offset (cond b (n - 1 - i) i))
      go true higher lower = inl (omega (arith, higher refl, rises (n - 1 - i) (n - 1 - j) (omega arith) (omega arith)))
      go false higher lower = inr (omega (arith, lower refl, rises j i before below))

  -- if each turn changes its own bytes alone, a word that turn i reads is still as it was
  pub source_kept : (f : ℕ → List ℕ → List ℕ)
      → ((P : List ℕ → Type 0) (k : ℕ) (x : List ℕ) → Keeps P (to + offset k) (to + offset k + size) → P x → P (f k x))
      → (i a : ℕ) (m : List ℕ) → i < n → from + offset (at_turn to from n i) ≤ a → a + 4 ≤ from + offset (at_turn to from n i) + size
      → word_at (ordered to from n f i m) a ≡ word_at m a
  source_kept f own i a m below low high =
      after-keeps _ (λ x. word_at x a ≡ word_at m a) i m
      (λ j x before h. own (λ x. word_at x a ≡ word_at m a) (at_turn to from n j) x (keeps-word a (word_at m a) _ _ (apart j before)) h)
      refl
    where
      apart : (j : ℕ) → j < i → (a + 4 ≤ to + offset (at_turn to from n j)) ⊎ (to + offset (at_turn to from n j) + size ≤ a)
      apart j before = ⊎_elim (λ h. inl (omega arith)) (λ h. inr (omega arith)) (written_apart i j before below)
