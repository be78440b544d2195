-- What demand 3 asks of the targets in the rings: in edition 1 nothing, in edition 2 that each is at most 1,073,741,824 past the
-- starting number, round the wrap.
use Prim.{Unit}
use Rattle.std.specs.Prelude.{ℕ, ◌+◌, ◌%◌, ◌^◌, ◌≤◌, ◌<◌, ◌≡◌, true, List, ◌↔◌}
use Rattle.words.specs.Arithmetic.{difference}
use Rattle.command.specs.Header.{is_whole}
use Rattle.state.specs.declared.edition.Start.{Start}
use Rattle.state.specs.declared.edition.Start.TheVariants.{Edition1, Edition2}
use Rattle.demands.specs.RingCommands.{place_of, nth}
use Rattle.demands.specs.EmitsAndWaits.{is_waiting}

-- the target is at most 1,073,741,824 past the starting number, round the wrap
pub record Near (first target : ℕ) : Type 0 where
  pub past : ℕ
  pub most : past ≤ 1073741824
  pub round : target ≡ (first + past) % 2 ^ 32

-- for 32-bit numbers that is: target minus starting number, modulo 4,294,967,296, is at most 1,073,741,824
unfoldable pub NearByDifference : Type 0
NearByDifference =
    (first target : ℕ) → first < 2 ^ 32 → target < 2 ^ 32 → Near first target ↔ (difference 32 target first ≤ 1073741824)

-- what is asked of a target, by how the device is made
abbrev pub NearStart : Start → ℕ → Type 0
NearStart Edition1 target = Unit {0}
NearStart (Edition2 first) target = Near first target

-- and of the rings: that it holds of the target of each waiting command that stands whole in one of them
unfoldable pub TargetsNear : Start → (ℕ → List ℕ) → Type 0
TargetsNear chosen R =
    (q n : ℕ) → q < 4 → is_whole (R q) (place_of (R q) n) ≡ true → is_waiting (nth (R q) n) ≡ true → NearStart chosen (nth (R q) n).target

-- so of the rings of a device of edition 1 nothing is asked
unfoldable pub NothingAsked : Type 0
NothingAsked = (R : ℕ → List ℕ) → TargetsNear Edition1 R
