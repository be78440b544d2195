-- When a limit fits.
-- Assumes nothing.
use mathlib.Core.Path.{◌≡◌, refl}
use mathlib.Core.Bool.{true, false}
use mathlib.Core.Logic.{◌⊎◌, ⊎_elim}
use Prim.Native.Nat.{ℕ, ◌≤◌, ◌<◌}
use native.Mathlib.Omega.{arith}
use lib.Dec.{leb}
use borrow.Author.Tests.{leb-true, le-leb, lt-leb}
use Rattle.words.proofs.Choices.{both_left, both_right}
use Rattle.state.specs.Device.{default_limit}
use Rattle.state.specs.Refusal.{limit_fits}

-- the limit where none is named fits
pub default_fits : limit_fits default_limit ≡ true
unfolding limit_fits
default_fits = refl

-- those that fit are 1 to 65,536
pub limit_within : (limit : ℕ) → limit_fits limit ≡ true → (1 ≤ limit) × (limit ≤ 65536)
unfolding limit_fits
limit_within limit e = (leb-true 1 limit (both_left (leb 1 limit) _ e), leb-true limit 65536 (both_right (leb 1 limit) _ e))

pub limit_fits_lem : (limit : ℕ) → 1 ≤ limit → limit ≤ 65536 → limit_fits limit ≡ true
unfolding limit_fits
limit_fits_lem limit low high = rw (le-leb 1 limit low, le-leb limit 65536 high)

pub limit_unfit : (limit : ℕ) → (limit ≡ 0) ⊎ (65536 < limit) → limit_fits limit ≡ false
unfolding limit_fits
limit_unfit limit = ⊎_elim (λ none. rw (lt-leb 1 limit (omega arith))) (λ above. rw (le-leb 1 limit (omega arith), lt-leb limit 65536 above))
