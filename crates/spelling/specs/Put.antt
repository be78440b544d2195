-- Bytes put over lent ones.
use Rattle.std.specs.Prelude.{ℕ, ◌+◌, ◌≤◌, ◌≡◌, List, ◌++◌, length, drop}
use Rattle.std.proofs.lemmas.List.Edits.{sets}

-- stored one by one from a place on; the answer is the place after them
pub record Put (before : List ℕ) (at : ℕ) (bytes after : List ℕ) (answer : ℕ) : Type 0 where
  pub stored : after ≡ sets before at bytes
  pub place : answer ≡ at + length bytes

-- a line stands at the front, the bytes past it are as before, and the answer is its length, for which there was room
pub record Spelled (line before after : List ℕ) (answer : ℕ) : Type 0 where
  pub bytes : after ≡ line ++ drop (length line) before
  pub counted : answer ≡ length line
  pub room : answer ≤ length after
