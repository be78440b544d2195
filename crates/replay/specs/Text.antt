-- Text at the front of bytes.
use Rattle.std.specs.Prelude.{ℕ, ◌+◌, ◌≡◌, List, ◌++◌, length, take, drop, replicate}

-- bytes put after the first n, with all others as before; the answer is how many there are now
pub record Appended (bytes : List ℕ) (n : ℕ) (before after : List ℕ) (answer : ℕ) : Type 0 where
  pub front : take answer after ≡ take n before ++ bytes
  pub rest : drop answer after ≡ drop answer before
  pub counted : answer ≡ n + length bytes

-- a text before anything is written: 262,144 zeros
unfoldable pub empty_text : List ℕ
empty_text = replicate 262144 0

-- a room for an input or a memory before anything is put there: 65,536 zeros
unfoldable pub empty_room : List ℕ
empty_room = replicate 65536 0
