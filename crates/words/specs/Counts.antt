-- The first set bit of a word from either end.
use Rattle.std.specs.Prelude.{ℕ, zero, suc, ◌-◌, ◌/◌, ◌%◌, ◌^◌, cond, ◌==◌}

-- bit i of x, 0 the lowest
abbrev pub bit : ℕ → ℕ → ℕ
bit i x = x / 2 ^ i % 2

-- the first of the places 0 to n - 1 at which b is not 0; n if there is none
unfoldable pub first_set : (ℕ → ℕ) → ℕ → ℕ
first_set b zero = 0
first_set b (suc n) = cond (b 0 == 0) (suc (first_set (λ i. b (suc i)) n)) 0

-- the first set bit from the highest of 32 down; 32 for 0
abbrev pub clz_of : ℕ → ℕ
clz_of x = first_set (λ i. bit (31 - i) x) 32

-- the first set bit from the lowest of 32 up; 32 for 0
abbrev pub ctz_of : ℕ → ℕ
ctz_of x = first_set (λ i. bit i x) 32
