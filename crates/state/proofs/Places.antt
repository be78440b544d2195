-- A value put in one place of a row.
-- Assumes nothing.
use mathlib.Core.Path.{◌≡◌, refl, ap}
use mathlib.Core.List.{List, [], ◌∷◌}
use Prim.Native.Nat.{ℕ, zero, suc}
use lib.ListN.{get_or, set}

-- what holds of a value put in place q, if that is place n, and of what place n held, holds of place n after it
pub put_each : {A : Type 0} (P : A → Type 0) (other : A) (xs : List A) (q : ℕ) (v : A) (n : ℕ) → (n ≡ q → P v) → P (get_or xs n other)
    → P (get_or (set xs q v) n other)
put_each P other [] q v n new old = old
put_each P other (x ∷ xs) zero v zero new old = new refl
put_each P other (x ∷ xs) zero v (suc n) new old = old
put_each P other (x ∷ xs) (suc q) v zero new old = old
put_each P other (x ∷ xs) (suc q) v (suc n) new old = put_each P other xs q v n (λ e. new (ap suc e)) old
