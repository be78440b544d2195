-- Of two numbers one is below or not, and tests whose facts agree are equal.
-- Assumes nothing.
use Rattle.std.proofs.Common.{◌≡◌, ℕ, ◌<◌, ◌≤◌, ltb, ◌⊎◌, sym, ◌∙◌, inl, inr, arith, le-ltb, lt-ltb}
use native.Mathlib.Decide.{dec_lt}

pub lt_or_ge : (a b : ℕ) → (a < b) ⊎ (b ≤ a)
lt_or_ge a b = go (dec_lt a b)
  where
    go : Dec (a < b) → (a < b) ⊎ (b ≤ a)
    go (yes h) = inl h
    go (no n) = inr (omega arith)

pub same_test : (a b c d : ℕ) → (a < b → c < d) → (b ≤ a → d ≤ c) → ltb a b ≡ ltb c d
same_test a b c d f g = go (lt_or_ge a b)
  where
    go : (a < b) ⊎ (b ≤ a) → ltb a b ≡ ltb c d
    go (inl h) = lt-ltb a b h ∙ sym (lt-ltb c d (f h))
    go (inr h) = le-ltb a b h ∙ sym (le-ltb c d (g h))
