-- One thing done again and again: the combinator of every loop that changes a window or a state.
use Rattle.std.specs.Prelude.{ℕ, zero, suc}

-- m after turns 0, 1, .., n - 1 of f, in that order
unfoldable pub after : {A : Type 0} → (ℕ → A → A) → ℕ → A → A
after f zero m = m
after f (suc n) m = f n (after f n m)
