-- Tests joined.
use Rattle.std.specs.Prelude.{ℕ, zero, suc, Bool, true, false, not, ◌&&◌}

-- does one hold and the other not
abbrev pub differ : Bool → Bool → Bool
differ true b = not b
differ false b = b

-- a test holds of each of 0, 1, .., n - 1
unfoldable pub all_below : (ℕ → Bool) → ℕ → Bool
all_below test zero = true
all_below test (suc n) = all_below test n && test n
