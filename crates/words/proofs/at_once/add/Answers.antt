use lib.Bits.{and_le_r}
use Rattle.std.proofs.Common.{arith}
use Rattle.words.proofs.LaneTypes.{lane_below, other_bits, lane_below_twice, lanes_of-sum}
use Rattle.words.proofs.at_once.add.Goals as goal

pub overflow_add-result : goal.overflow_add-result
overflow_add-result c =
    let ty = c.args.ty in
    rw c.below_tops-below.ensures
    (omega (arith, lane_below_twice ty, and_le_r c.args.a (lane_below ty), and_le_r c.args.b (lane_below ty)))

pub returns : goal.returns
returns c = rw (c.below_tops-below.ensures, other_bits, lanes_of-sum _ _ _ c.ranges.a.fits c.ranges.b.fits)
