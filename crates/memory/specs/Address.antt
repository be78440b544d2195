-- The address test.
use Rattle.std.specs.Prelude.{cond, ℕ, ◌+◌, ◌%◌, ◌^◌, leb, ltb, Result, Ok, Err}
use Rattle.memory.specs.declared.address.Outside.{Outside}

-- of an access not wholly inside, the first address that is not inside: its own, or the window's length if it begins inside (modulo
-- 2^32, as every address; a device's window is shorter)
unfoldable pub first_outside : ℕ → ℕ → ℕ
first_outside length address = cond (ltb address length) (length % 2 ^ 32) address

-- an access that is not wholly inside, and the first address that is not
abbrev pub outside_at : ℕ → Outside
outside_at first = record { first = first }

-- Ok if `count` bytes from `address` on lie wholly in a window of `length` bytes, else the first address that is not inside; the test
-- does not wrap
unfoldable pub reach_of : ℕ → ℕ → ℕ → Result Unit Outside
reach_of length address count = cond (leb (address + count) length) (Ok tt) (Err (outside_at (first_outside length address)))

-- the first of two if the bytes lie inside, else the second, which is told the first address that is not inside
unfoldable pub if_inside : {A : Type 0} → Result Unit Outside → A → (Outside → A) → A
if_inside (Ok u) x y = x
if_inside (Err o) x y = y o
