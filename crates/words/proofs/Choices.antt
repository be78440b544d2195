-- Laws of tests and of what is chosen by them.
-- Assumes nothing.
use Rattle.std.proofs.Common.{◌≡◌, ℕ, ◌≤◌, Bool, true, false, cond, ◌&&◌, ◌||◌, refl}
use Rattle.words.specs.Choice.{differ}

pub cond_le : (b : Bool) {x y n : ℕ} → x ≤ n → y ≤ n → cond b x y ≤ n
cond_le true hx hy = hx
cond_le false hx hy = hy

-- both hold
pub both_left : (a b : Bool) → (a && b) ≡ true → a ≡ true
both_left true b e = refl
both_left false b e = e

pub both_right : (a b : Bool) → (a && b) ≡ true → b ≡ true
both_right true b e = e
both_right false b e = cc

-- not both, and the first holds
pub not_both : (a b : Bool) → a ≡ true → (a && b) ≡ false → b ≡ false
not_both true b h e = e
not_both false b h e = cc

-- neither holds
pub neither_left : (a b : Bool) → (a || b) ≡ false → a ≡ false
neither_left true b e = e
neither_left false b e = refl

pub neither_right : (a b : Bool) → (a || b) ≡ false → b ≡ false
neither_right true b e = cc
neither_right false b e = e

-- a test that does not hold
pub not_held : (b : Bool) → (b ≡ true → ⊥) → b ≡ false
not_held true f = absurd (f refl)
not_held false f = refl

-- tests that do not differ
pub same_tests : (a b : Bool) → differ a b ≡ false → a ≡ b
same_tests true true e = refl
same_tests true false e = cc
same_tests false b e = cc

-- a chain of tests gives what stands at the first that holds
module _ {A : Type 0} where
  pub chosen : (b : Bool) (x y : A) {z : A} → b ≡ true → z ≡ x → z ≡ cond b x y
  chosen b x y e h = rw e h

  pub passed : (b : Bool) (x y : A) {z : A} → b ≡ false → z ≡ y → z ≡ cond b x y
  passed b x y e h = rw e h

  -- what holds of both, each where it is chosen, holds of the choice
  pub cond_has : (P : A → Type 0) (b : Bool) {x y : A} → (b ≡ true → P x) → (b ≡ false → P y) → P (cond b x y)
  cond_has P true hx hy = hx refl
  cond_has P false hx hy = hy refl
