-- Laws of the parts of the input.
-- Assumes nothing.
use mathlib.Core.Path.{◌≡◌, ap, ◌∙◌}
use mathlib.Core.List.{List, [], ◌∷◌}
use Prim.Native.Nat.{ℕ, zero, suc, ◌-◌, ◌<◌, min}
use native.Mathlib.Nat.{zero-min, min-zero, suc-min-suc}
use native.Mathlib.Omega.{arith}
use lib.ListN.{length, take, drop, length-drop}
use Rattle.std.specs.Ordering.{ord_min, nat_cmp}
use Rattle.std.proofs.lemmas.Bool.Decides.{nat_tests}
use Rattle.memory.specs.Window.{window_of}
use Rattle.job.specs.declared.parts.Part.{Part}
use Rattle.job.specs.Parts.{bytes_of}

-- the library's `min`
least : (a b : ℕ) → ord_min nat_cmp a b ≡ min a b
least a b = grind (arith, nat_tests)

-- more than there is takes all that there is
take_min : (n : ℕ) (s : List ℕ) → take (min n (length s)) s ≡ take n s
take_min zero s = rw zero-min
take_min (suc n) [] = rw min-zero
take_min (suc n) (b ∷ s) = rw suc-min-suc (ap (λ rest. b ∷ rest) (take_min n s))

-- of the place where a part ends, or the input if that is sooner
module _ (input : List ℕ) (part : Part) {end : ℕ} (clamped : end ≡ ord_min nat_cmp part.end (length input)) where
  -- the bytes up to there are the part's
  pub bytes_some : take (end - part.start) (drop part.start input) ≡ bytes_of input part
  unfolding bytes_of window_of
  bytes_some =
      let same : end - part.start ≡ min (part.end - part.start) (length (drop part.start input)) = simp length-drop (omega (arith, clamped ∙ least part.end (length input))) in
      rw same (take_min (part.end - part.start) (drop part.start input))

  -- and it has none, where that is below its start
  pub bytes_none : end < part.start → [] ≡ bytes_of input part
  bytes_none h =
      let none : end - part.start ≡ 0 = omega arith in
      rw (← bytes_some, none)
