use Rattle.std.proofs.Common.{arith}
use Rattle.std.proofs.lemmas.Nat.{one_shl}
use Rattle.words.proofs.LaneProducts.{lane_product_fits}
use Rattle.words.proofs.products.product_at.Goals as goal

pub overflow_mul-result : goal.overflow_mul-result
overflow_mul-result g c =
    rw (one_shl g.row.BITS 32 (omega arith)) (omega (arith, lane_product_fits g.row.BITS c.args.i c.args.a c.args.b c.requires.1))
