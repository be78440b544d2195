-- The lines that the replay job prints.
use Rattle.std.specs.Prelude.{ℕ, List, [], ◌∷◌, ◌++◌}
use Rattle.spelling.specs.Decimal.{decimal}

-- words, with a space between two and a newline at the end
unfoldable pub line_of : List (List ℕ) → List ℕ
line_of [] = 10 ∷ []
line_of (word ∷ []) = word ++ (10 ∷ [])
line_of (word ∷ next ∷ rest) = word ++ (32 ∷ line_of (next ∷ rest))

-- turn, ring, outcome, fence, words read
unfoldable pub turn_line : ℕ → ℕ → ℕ → ℕ → ℕ → List ℕ
turn_line turn ring outcome fence words_read =
    line_of (decimal turn ∷ decimal ring ∷ decimal outcome ∷ decimal fence ∷ decimal words_read ∷ [])

-- the letters of `idle`
abbrev pub idle_word : List ℕ
idle_word = 105 ∷ 100 ∷ 108 ∷ 101 ∷ []

-- the letters of `refused`
abbrev pub refused_word : List ℕ
refused_word = 114 ∷ 101 ∷ 102 ∷ 117 ∷ 115 ∷ 101 ∷ 100 ∷ []

-- `idle` and the turns taken
unfoldable pub idle_line : ℕ → List ℕ
idle_line turns = line_of (idle_word ∷ decimal turns ∷ [])

-- `refused` and the number
unfoldable pub refused_line : ℕ → List ℕ
refused_line number = line_of (refused_word ∷ decimal number ∷ [])
