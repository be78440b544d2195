use Rattle.std.proofs.Common.{◌≡◌, rules, refl, length, arith}
use Rattle.std.proofs.iter.Yields.{nat_range_steps}
use Rattle.std.specs.List.{range_with_len}
use Rattle.std.proofs.lemmas.Fn.{fold_over}
use Rattle.std.proofs.lemmas.Iterator.{YieldsList-from_range}
use Rattle.std.proofs.lemmas.List.FromFn.{length-range_with_len}
use Rattle.recorded.specs.Piece.{place_of}
use Rattle.recorded.proofs.Pieces.{one_further}
use Rattle.recorded.proofs.piece.place_of.Goals as goal

pub returns : goal.returns
unfolding place_of
returns c =
    rw (← length-range_with_len 0 c.args.k)
    (fold_over nat_range_steps (λ x. x) _ (λ ys at. at ≡ place_of c.args.body.now (length ys)) _ (λ ys at y next q here called. (one_further _ ys y at next here (search rules), search rules))
    (record { start = 0; end = c.args.k }) (range_with_len 0 c.args.k) 4 _ (YieldsList-from_range 0 c.args.k c.args.k refl (omega arith)).runs refl c.fold.ensures.ran)
