-- Laws of stores one after another.
-- Assumes nothing.
use mathlib.Core.Path.{◌≡◌}
use mathlib.Core.List.{List, [], ◌∷◌, ◌++◌}
use Prim.Native.Nat.{ℕ, suc, ◌+◌, ◌≤◌}
use native.Mathlib.Nat.{add-zero, zero-add, add-suc, suc-add}
use native.Mathlib.Omega.{arith}
use lib.ListN.{length, set, take, drop, length-append}
use lib.Seq.{sets, sets-eq, take_at, length-take-le}
use Rattle.spelling.specs.Put.{Put}

-- two rows of stores are one
pub sets_append : (m : List ℕ) (at : ℕ) (xs ys : List ℕ) → sets m at (xs ++ ys) ≡ sets (sets m at xs) (at + length xs) ys
sets_append m at [] ys = rw add-zero
sets_append m at (x ∷ xs) ys = rw (add-suc, ← suc-add) (sets_append (set m at x) (suc at) xs ys)

-- a row from the front on
pub sets_front : (m line : List ℕ) → length line ≤ length m → sets m 0 line ≡ line ++ drop (length line) m
sets_front m line h = rw (sets-eq line m 0 (rw zero-add h), zero-add)

-- what is put after a front makes the front longer
pub put_front : (m bytes after : List ℕ) (at r : ℕ) → at + length bytes ≤ length m → Put m at bytes after r → take r after ≡ take at m ++ bytes
put_front m bytes after at r room p =
    let long : length (take at m ++ bytes) ≡ r = simp length-append (omega (arith, length-take-le at m (omega arith), p.place)) in
    rw (p.stored, sets-eq bytes m at room) (take_at (take at m ++ bytes) _ r long)
