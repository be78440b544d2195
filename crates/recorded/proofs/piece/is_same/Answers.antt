use Rattle.std.proofs.Common.{◌+◌, rules, refl, length, get_or}
use borrow.Author.Tests.{tests}
use lib.Dec.{eqb}
use Rattle.words.proofs.AllInRange.{all_in_range}
use Rattle.recorded.specs.Piece.{entry_of, same_as}
use Rattle.recorded.proofs.piece.is_same.Goals as goal

pub returns : goal.returns
unfolding same_as
returns c =
    let all = all_in_range (λ i. eqb (get_or c.args.bytes.now i 0) (get_or (entry_of c.args.body.now c.args.k) (8 + i) 0)) (length c.args.bytes.now) _ _ c.all.result refl c.all.ensures.ran (λ x b q k. search (rules, tests)) in
    rw (all, c.length_of.ensures)
