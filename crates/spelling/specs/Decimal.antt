-- Numbers in decimal: the bytes of their digits, the highest first, without leading zeros.
use Rattle.std.specs.Prelude.{ℕ, zero, suc, ◌+◌, ◌/◌, ◌%◌, cond, List, [], ◌∷◌, ◌++◌, ltb}

-- the byte of a digit; that of 0 is 48
abbrev pub digit : ℕ → ℕ
digit d = 48 + d

-- a number's digits, where they are at most so many: those of its tenth, then the last one
unfoldable pub digits : ℕ → ℕ → List ℕ
digits zero n = []
digits (suc most) n = cond (ltb n 10) (digit n ∷ []) (digits most (n / 10) ++ (digit (n % 10) ∷ []))

-- a number n has at most n + 1 of them
unfoldable pub decimal : ℕ → List ℕ
decimal n = digits (suc n) n
