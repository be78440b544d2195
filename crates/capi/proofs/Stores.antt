-- Laws of stores one after another.
-- Assumes nothing.
use mathlib.Core.Path.{◌≡◌, ◌∙◌}
use mathlib.Core.List.{List, [], ◌∷◌, ◌++◌, append-nil}
use Prim.Native.Nat.{ℕ, suc, ◌+◌, ◌≤◌}
use native.Mathlib.Nat.{add-zero, add-suc, suc-add}
use native.Mathlib.Omega.{arith}
use lib.ListN.{length, set, drop, drop_of_length-le}
use lib.Seq.{sets, sets-eq}

-- two rows of stores are one
pub sets_append : (m : List ℕ) (at : ℕ) (xs ys : List ℕ) → sets (sets m at xs) (at + length xs) ys ≡ sets m at (xs ++ ys)
sets_append m at [] ys = rw add-zero
sets_append m at (x ∷ xs) ys = rw (add-suc, ← suc-add) (sets_append (set m at x) (suc at) xs ys)

-- a row over all places is what is there in the end
pub sets_whole : (m xs : List ℕ) → length xs ≡ length m → sets m 0 xs ≡ xs
sets_whole m xs e =
    let inside : 0 + length xs ≤ length m = omega arith in
    let rest : drop (0 + length xs) m ≡ [] = drop_of_length-le m {i = 0 + length xs} (omega arith) in
    sets-eq xs m 0 inside ∙ rw rest (append-nil xs)
