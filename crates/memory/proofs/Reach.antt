-- Laws of the address test.
-- Assumes nothing.
use mathlib.Core.Path.{◌≡◌, refl}
use mathlib.Core.Bool.{Bool, true, false}
use mathlib.Core.Logic.{◌⊎◌, inl, inr}
use Prim.Native.Nat.{ℕ, ◌+◌, ◌^◌, ◌≤◌, ◌<◌}
use lib.Dec.{leb}
use native.Mathlib.Nat.{mod-eq_of_lt}
use borrow.Author.Tests.{le-leb, lt-leb, lt-ltb, le-ltb, leb-true, leb-false}
use Rattle.std.specs.Prelude.{Ok, Err}
use Rattle.memory.specs.Address.{first_outside, outside_at, reach_of}

-- what the test's answer says of the numbers, either way
abbrev pub ReachCases : ℕ → ℕ → ℕ → Type 0
ReachCases length address count =
    ((address + count ≤ length) × (reach_of length address count ≡ Ok tt))
    ⊎ ((length < address + count) × (reach_of length address count ≡ Err (outside_at (first_outside length address))))

module _ (length address count : ℕ) where
  pub reach_inside : address + count ≤ length → reach_of length address count ≡ Ok tt
  unfolding reach_of
  reach_inside h = rw (le-leb (address + count) length h)

  pub reach_outside : length < address + count → reach_of length address count ≡ Err (outside_at (first_outside length address))
  unfolding reach_of
  reach_outside h = rw (lt-leb (address + count) length h)

  pub reach_cases : ReachCases length address count
  reach_cases = go (leb (address + count) length) refl
    where
      go : (b : Bool) → leb (address + count) length ≡ b → ReachCases length address count
      go true e = inl (leb-true _ _ e, reach_inside (leb-true _ _ e))
      go false e = inr (leb-false _ _ e, reach_outside (leb-false _ _ e))

module _ (length address : ℕ) where
  -- an access that does not begin inside tells its own address
  pub first_is_own : length ≤ address → first_outside length address ≡ address
  unfolding first_outside
  first_is_own h = rw (le-ltb address length h)

  -- one that begins inside and ends outside tells the window's length
  pub first_is_length : address < length → length < 2 ^ 32 → first_outside length address ≡ length
  unfolding first_outside
  first_is_length h small = rw (lt-ltb address length h, mod-eq_of_lt small)
