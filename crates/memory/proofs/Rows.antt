-- Where the rows of a rectangle lie.
-- Assumes nothing.
use mathlib.Core.Path.{◌≡◌}
use mathlib.Core.Bool.{false}
use Prim.Native.Nat.{ℕ, ◌+◌, ◌-◌, ◌*◌, ◌≤◌, ◌<◌, ◌^◌}
use native.Mathlib.Nat.{add-mul, one-mul, mul-le-mul_right}
use native.Mathlib.Omega.{arith}
use lib.Dec.{eqb}
use mir.Syntax.{w64}
use mir.Val.{Fits}
use borrow.Author.Tests.{ne_eqb}
use Rattle.memory.specs.Rectangle.{rectangle_end}

pub rectangle_end_lem : (address stride width height : ℕ) → 0 < width → 0 < height
    → rectangle_end address stride width height ≡ address + (height - 1) * stride + 4 * width
unfolding rectangle_end
rectangle_end_lem address stride width height hw hh =
    let w : eqb width 0 ≡ false = ne_eqb width 0 (λ e. omega arith) in
    let h : eqb height 0 ≡ false = ne_eqb height 0 (λ e. omega arith) in
    rw (w, h)

-- rows that do not overlap: a later row starts after an earlier one ends
pub row-after : (stride width y z : ℕ) → 4 * width ≤ stride → y < z → y * stride + 4 * width ≤ z * stride
row-after stride width y z wide h =
    let next : y + 1 ≤ z = omega arith in
    omega (arith, add-mul y 1 stride, one-mul stride, mul-le-mul_right stride next)

-- row y is no further than the last
module _ (address stride width height y n : ℕ) (wide : 0 < width) (below : y < height) (inside : rectangle_end address stride width height ≤ n) where
  pub row_inside : address + y * stride + 4 * width ≤ n
  row_inside =
      let before : y ≤ height - 1 = omega arith in
      omega (arith, rectangle_end_lem address stride width height wide (omega arith), mul-le-mul_right stride before)

  -- its offset and its start are numbers that the code can hold
  pub row_offset_fits : n < 2 ^ 64 → Fits w64 (y * stride)
  row_offset_fits small = omega (arith, row_inside)

  pub row-start-fits : n < 2 ^ 64 → Fits w64 (address + y * stride)
  row-start-fits small = omega (arith, row_inside)
