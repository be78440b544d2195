-- Bytes taken from one lent slice into another.
use Rattle.std.specs.Prelude.{List, ℕ, ◌+◌, get_or, set}
use Rattle.memory.specs.After.{after}

-- `n` bytes of the source, from `start` on, put from `at` on
unfoldable pub transferred : List ℕ → ℕ → ℕ → ℕ → List ℕ → List ℕ
transferred source start at n = after (λ i m. set m (at + i) (get_or source (start + i) 0)) n
