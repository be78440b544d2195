use lib.Bits.{and_le_r}
use Rattle.std.proofs.Common.{arith}
use Rattle.std.proofs.lemmas.Nat.{le_or_r}
use Rattle.words.proofs.LaneTypes.{lane_tops, lane_below, other_bits, lane_below_twice, lanes_of-difference}
use Rattle.words.proofs.at_once.sub.Goals as goal

pub overflow_sub-result : goal.overflow_sub-result
overflow_sub-result c =
    let ty = c.args.ty in
    rw (c.below_tops-below.ensures, other_bits)
    (omega (arith, lane_below_twice ty, other_bits ty, and_le_r c.args.b (lane_below ty), le_or_r c.args.a (lane_tops ty)))

pub returns : goal.returns
returns c = rw (c.below_tops-below.ensures, other_bits, lanes_of-difference _ _ _ c.ranges.a.fits c.ranges.b.fits)
