use Rattle.std.proofs.Common.{rules, refl}
use borrow.Author.Tests.{tests}
use lib.Dec.{leb}
use Rattle.words.proofs.AllInRange.{all_in_range}
use Rattle.recorded.specs.Piece.{length_of}
use Rattle.recorded.specs.Turn.{most_of, has_room}
use Rattle.recorded.proofs.turn.has_room.Goals as goal

pub returns : goal.returns
unfolding has_room
returns c = all_in_range (λ k. leb (length_of c.args.body.now k) (most_of k)) 8 _ _ _ refl c.all.ensures.ran (λ x b q k. search (rules, tests))
