-- Words as signed numbers: two's complement, sign extension, and the signed order.
use Rattle.std.specs.Prelude.{ℕ, suc, ◌+◌, ◌-◌, ◌%◌, ◌^◌, Bool, cond, ℤ, pos, negsuc, nat_lt}

-- the signed number that a word stands for
abbrev pub signed_of : ℕ → ℤ
signed_of w = cond (nat_lt w (2 ^ 31)) (pos w) (negsuc (2 ^ 32 - suc w))

-- x of k bits as a word, bit k - 1 repeated above it
abbrev pub extended : ℕ → ℕ → ℕ
extended k x = cond (nat_lt x (2 ^ (k - 1))) x (x + (2 ^ 32 - 2 ^ k))

-- the place of a word in the signed order: the least number has place 0
abbrev pub biased : ℕ → ℕ
biased w = (w + 2 ^ 31) % 2 ^ 32

-- a is below b as a signed number
unfoldable pub below_signed : ℕ → ℕ → Bool
below_signed a b = nat_lt (biased a) (biased b)
