-- The arithmetic of words and of lanes.
use Rattle.std.specs.Prelude.{ℕ, ◌+◌, ◌-◌, ◌*◌, ◌/◌, ◌%◌, ◌^◌, cond, nat_lt}
use Rattle.words.specs.Signed.{below_signed}

-- sums, differences and products keep the low k bits of the register or lane
abbrev pub sum : ℕ → ℕ → ℕ → ℕ
sum k a b = (a + b) % 2 ^ k

abbrev pub difference : ℕ → ℕ → ℕ → ℕ
difference k a b = (a + (2 ^ k - b)) % 2 ^ k

abbrev pub product : ℕ → ℕ → ℕ → ℕ
product k a b = a * b % 2 ^ k

-- register shifts use the low 5 bits of b
abbrev pub shifted_left : ℕ → ℕ → ℕ
shifted_left a b = a * 2 ^ (b % 32) % 2 ^ 32

abbrev pub shifted_right : ℕ → ℕ → ℕ
shifted_right a b = a / 2 ^ (b % 32)

-- the sign is shifted in: of a negative number, the bits that are 0 are shifted right
unfoldable pub shifted_signed : ℕ → ℕ → ℕ
shifted_signed a b = cond (nat_lt a (2 ^ 31)) (a / 2 ^ (b % 32)) (2 ^ 32 - 1 - (2 ^ 32 - 1 - a) / 2 ^ (b % 32))

-- the smaller and the larger of two signed numbers
unfoldable pub least : ℕ → ℕ → ℕ
least a b = cond (below_signed a b) a b

unfoldable pub greatest : ℕ → ℕ → ℕ
greatest a b = cond (below_signed a b) b a

-- a signed number without its sign; of the least number itself
unfoldable pub magnitude : ℕ → ℕ
magnitude a = cond (nat_lt a (2 ^ 31)) a (2 ^ 32 - a)
