use mathlib.Core.Path.{sym}
use native.Mathlib.Omega.{arith}
use lib.ListN.{length}
use Rattle.memory.specs.Rectangle.{filled}
use Rattle.memory.proofs.Put.{pixels_put-none, pixels_put-more, pixels_put-empty}
use Rattle.memory.proofs.Rows.{row_inside, row_offset_fits, row-start-fits}
use Rattle.memory.proofs.rectangle.fill.Goals as goal

pub returns-then-rectangle-eq0 : goal.returns-then-rectangle-eq0
unfolding filled
returns-then-rectangle-eq0 c = rw (c.if-rectangle-eq0.true, pixels_put-empty)

pub loop-y-init : goal.loop-y-init
loop-y-init c = sym (pixels_put-none _ _ _ _ _)

pub overflow_mul-row : goal.overflow_mul-row
overflow_mul-row c =
    let a = c.args in
    let r = a.rectangle in
    row_offset_fits a.address _ r.width r.height _ (length a.window.now) (omega arith) (omega arith) (omega arith) (omega arith)

pub overflow_add-address : goal.overflow_add-address
overflow_add-address c =
    let a = c.args in
    let r = a.rectangle in
    row-start-fits _ _ r.width r.height _ (length a.window.now) (omega arith) (omega arith) (omega arith) (omega arith)

pub fill_row-requires : goal.fill_row-requires
fill_row-requires c =
    let a = c.args in
    let r = a.rectangle in
    omega (
      arith,
      row_inside a.address r.stride r.width r.height c.loop-y.y (length a.window.now) (omega arith) (omega arith) (omega arith),
    )

pub loop-y-preserved : goal.loop-y-preserved
loop-y-preserved c = rw (pixels_put-more, ← c.loop-y.invariant) c.fill_row.ensures
