-- Laws of a section.
-- Assumes nothing.
use Prim.Native.Nat.{ℕ, ◌*◌, ◌≤◌, ◌<◌, ◌^◌}
use native.Mathlib.Nat.{le_trans, mul-le-mul_right}
use native.Mathlib.Omega.{arith}

-- how many bytes a section's content can have
pub size_most : (unit count : ℕ) → unit ≤ 8 → count < 2 ^ 32 → unit * count ≤ 2 ^ 35
size_most unit count few fits = le_trans (mul-le-mul_right count few) (omega arith)
