-- The numbers of a rectangle fit.
-- Assumes nothing.
use Prim.Native.Nat.{ℕ, ◌-◌, ◌*◌, ◌^◌, ◌≤◌, ◌<◌}
use native.Mathlib.Nat.{mul-le-mul}
use native.Mathlib.Omega.{arith}
use Rattle.command.specs.declared.header.Command.{Command}
use Rattle.work.specs.Shape.{width_of, height_of}

pub width_fits : (c : Command) → width_of c < 2 ^ 16
unfolding width_of
width_fits c = omega arith

pub height_fits : (c : Command) → height_of c < 2 ^ 16
unfolding height_of
height_fits c = omega arith

-- the rows before the last
pub rows_fit : (height stride : ℕ) → height < 2 ^ 16 → stride < 2 ^ 32 → (height - 1) * stride ≤ 2 ^ 16 * 2 ^ 32
rows_fit height stride h s =
    let rows : height - 1 ≤ 2 ^ 16 = omega arith in
    let bytes : stride ≤ 2 ^ 32 = omega arith in
    mul-le-mul rows bytes
