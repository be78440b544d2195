use Rattle.std.proofs.Common.{arith}
use Rattle.words.proofs.LaneProducts.{more_lanes, more_lanes_fit, shifted_lane}
use Rattle.words.proofs.products.products.Goals as goal

pub overflow_add-word : goal.overflow_add-word
overflow_add-word g c =
    rw (c.product_at.ensures, shifted_lane _ _ _ _ c.loop-i-test.true, c.loop-i.invariant)
    (omega (arith, more_lanes_fit _ _ c.args.a c.args.b c.loop-i-test.true))

pub loop-i-preserved : goal.loop-i-preserved
loop-i-preserved g c =
    rw (c.product_at.ensures, shifted_lane _ _ _ _ c.loop-i-test.true, c.loop-i.invariant)
    (more_lanes _ _ c.args.a c.args.b)
