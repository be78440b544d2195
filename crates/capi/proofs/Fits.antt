-- Rows of numbers below 2^32.
-- Assumes nothing.
use mathlib.Core.List.{List, [], ◌∷◌, ◌++◌}
use Prim.Native.Nat.{ℕ, zero, suc, ◌^◌, ◌<◌}
use native.Mathlib.Omega.{arith}
use lib.ListN.{get_or, replicate}

-- each number is below 2^32
pub record Fits (xs : List ℕ) : Type 0 where
  pub at : (k : ℕ) → get_or xs k 0 < 2 ^ 32

pub fits-none : Fits []
fits-none = record { at = λ k. omega arith }

pub fits_more : {x : ℕ} {xs : List ℕ} → x < 2 ^ 32 → Fits xs → Fits (x ∷ xs)
fits_more {x} {xs} small rest = record { at = go }
  where
    go : (k : ℕ) → get_or (x ∷ xs) k 0 < 2 ^ 32
    go zero = small
    go (suc k) = rest.at k

-- what is left of a row without its first number
fits-rest : {x : ℕ} {xs : List ℕ} → Fits (x ∷ xs) → Fits xs
fits-rest h = record { at = λ k. h.at (suc k) }

pub fits_both : (xs : List ℕ) {ys : List ℕ} → Fits xs → Fits ys → Fits (xs ++ ys)
fits_both [] first second = second
fits_both (x ∷ xs) first second = fits_more (first.at 0) (fits_both xs (fits-rest first) second)

pub fits-left : (xs ys : List ℕ) → Fits (xs ++ ys) → Fits xs
fits-left [] ys h = fits-none
fits-left (x ∷ xs) ys h = fits_more (h.at 0) (fits-left xs ys (fits-rest h))

pub fits-right : (xs : List ℕ) {ys : List ℕ} → Fits (xs ++ ys) → Fits ys
fits-right [] h = h
fits-right (x ∷ xs) h = fits-right xs (fits-rest h)

pub fits_alike : (n : ℕ) {x : ℕ} → x < 2 ^ 32 → Fits (replicate n x)
fits_alike zero small = fits-none
fits_alike (suc n) small = fits_more small (fits_alike n small)
