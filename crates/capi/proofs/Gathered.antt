-- What the library's `from_fn` gathers, where each call gives h of its index and leaves the closure as it was.
-- Assumes nothing.
use denote.Param.Members.{Mut}
use mathlib.Core.List.{List}
use mathlib.Core.Path.{◌≡◌, ◌∙◌, subst}
use Prim.Native.Nat.{ℕ, zero, suc, ◌+◌, ◌<◌}
use native.Mathlib.Nat.{add-zero, zero-add}
use native.Mathlib.Omega.{arith}
use lib.ListN.{get_or}
use Rattle.std.specs.Array.{IsFromFnResult, IsFromFnResultFrom}
use Rattle.std.specs.Fn.{Called}

module _ {F B : Type 0} (g : Mut F (ℕ × Unit {0}) B) (f : F) (h : ℕ → B)
    (each : (i : ℕ) (b : B) (q : F) → Called g f (i, tt) b q → (q ≡ f) × (b ≡ h i)) where
  gathered_from : (ys : List B) (e : B) (i n : ℕ) → IsFromFnResultFrom g f ys i n → (j : ℕ) → j < n → get_or ys (i + j) e ≡ h (i + j)
  gathered_from ys e i zero made j l = absurd (omega arith)
  gathered_from ys e i (suc n) made zero l = rw add-zero (made.2.1 e ∙ (each i made.1 made.0 made.3).1)
  gathered_from ys e i (suc n) made (suc j) l =
      let rest = subst (λ p. IsFromFnResultFrom g p ys (i + 1) n) (each i made.1 made.0 made.3).0 made.4 in
      let next : i + suc j ≡ i + 1 + j = omega arith in
      rw next (gathered_from ys e (i + 1) n rest j (omega arith))

  pub gathered : {ys : List B} {n : ℕ} → IsFromFnResult g f ys n → (e : B) (j : ℕ) → j < n → get_or ys j e ≡ h j
  gathered {ys} {n} made e j l = rw zero-add at (gathered_from ys e 0 n made.each j l)
