-- The comparisons of two words.
use Rattle.std.specs.Prelude.{ℕ, Bool, not, ◌==◌, nat_le, nat_lt}
use Rattle.words.specs.Signed.{below_signed}

-- BEQ and BNE
abbrev pub same : ℕ → ℕ → Bool
same a b = a == b

abbrev pub different : ℕ → ℕ → Bool
different a b = not (same a b)

-- BLTU and BGEU compare unsigned numbers
abbrev pub below_unsigned : ℕ → ℕ → Bool
below_unsigned a b = nat_lt a b

abbrev pub at_least_unsigned : ℕ → ℕ → Bool
at_least_unsigned a b = nat_le b a

-- BGE compares signed numbers, as BLT does by `below_signed`
abbrev pub at_least_signed : ℕ → ℕ → Bool
at_least_signed a b = not (below_signed a b)
