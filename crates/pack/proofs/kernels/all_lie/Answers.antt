use Rattle.std.proofs.Common.{rules, refl}
use borrow.Author.Tests.{tests}
use Rattle.words.proofs.AllInRange.{all_in_range}
use Rattle.pack.specs.Kernels.{lies_in_code}
use Rattle.pack.proofs.kernels.all_lie.Goals as goal

pub returns : goal.returns
returns c =
    all_in_range (lies_in_code c.args.pack.now) c.args.n _ _ _ refl c.all.ensures.ran (λ x b q k. search (rules, tests))
