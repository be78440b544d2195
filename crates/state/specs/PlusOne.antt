-- A 32-bit number goes up by one; from 4,294,967,295 it goes round to 0.
use Rattle.std.specs.Prelude.{ℕ, ◌+◌, ◌%◌, ◌^◌, List, get_or, set}

-- one more
abbrev pub plus_one : ℕ → ℕ
plus_one n = (n + 1) % 2 ^ 32

-- one more at place n, and the other places as they were
unfoldable pub plus_one_at : List ℕ → ℕ → List ℕ
plus_one_at numbers n = set numbers n (plus_one (get_or numbers n 0))
