use mathlib.Core.Path.{◌≡◌, sym, ap, ◌∙◌}
use native.Mathlib.Omega.{arith}
use lib.ListN.{length}
use Rattle.memory.specs.Copy.{blitted}
use Rattle.memory.proofs.After.{after_none}
use Rattle.memory.proofs.Put.{pixels_put-empty}
use Rattle.memory.proofs.Rows.{row_inside, row_offset_fits, row-start-fits}
use Rattle.memory.proofs.Order.{ordered}
use Rattle.memory.proofs.Copied.{row_put, row-turn, row_turns}
use Rattle.memory.proofs.copy.blit.Goals as goal

pub returns-then-rectangle-eq0 : goal.returns-then-rectangle-eq0
unfolding blitted
returns-then-rectangle-eq0 c = rw (c.if-rectangle-eq0.true, pixels_put-empty)

pub loop-i-init : goal.loop-i-init
loop-i-init c = sym (after_none _ _)

pub overflow_mul-row : goal.overflow_mul-row
overflow_mul-row c =
    let a = c.args in
    let r = a.rectangle in
    row_offset_fits a.to _ r.width r.height _ (length a.window.now) (omega arith) (omega arith) (omega arith) (omega arith)

pub overflow_add-to : goal.overflow_add-to
overflow_add-to c =
    let a = c.args in
    let r = a.rectangle in
    row-start-fits _ _ r.width r.height _ (length a.window.now) (omega arith) (omega arith) (omega arith) (omega arith)

pub overflow_add-from : goal.overflow_add-from
overflow_add-from c =
    let a = c.args in
    let r = a.rectangle in
    row-start-fits _ _ r.width r.height _ (length a.window.now) (omega arith) (omega arith) (omega arith) (omega arith)

pub copy-requires : goal.copy-requires
copy-requires c =
    let a = c.args in
    let r = a.rectangle in
    (row_inside _ _ _ r.height _ _ (omega arith) (omega arith) (omega arith), row_inside _ _ _ r.height _ _ (omega arith) (omega arith) (omega arith))

pub loop-i-preserved : goal.loop-i-preserved
loop-i-preserved c =
    let start = c in
    let a = start.args in
    let r = a.rectangle in
    let turn = c.loop-i in
    c.copy.ensures
    ∙ row-turn a.to a.from r.stride r.width r.height a.window.now (omega arith) start.requires.2 turn.i _ turn.window (omega arith)
    c.at_turn.ensures.0 turn.invariant

pub returns : goal.returns
returns c =
    let start = c in
    let a = start.args in
    let r = a.rectangle in
    let all : c.loop-i.i ≡ r.height = omega arith in
    c.loop-i.invariant
    ∙ ap (λ i. ordered a.to a.from r.height (row_put a.to a.from r.stride r.width a.window.now) i a.window.now) all
    ∙ row_turns a.to a.from r.stride r.width r.height a.window.now (omega arith) start.requires.2
