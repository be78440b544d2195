use Rattle.std.proofs.Common.{arith, rules, ℕ, ap}
use borrow.Author.Tests.{tests}
use Rattle.words.proofs.AllInRange.{all_in_range}
use Rattle.job.specs.Kernels.{lies_in_code}
use Rattle.job.proofs.kernels.all_lie_in_code.Goals as goal

pub returns : goal.returns
returns c = all_in_range (lies_in_code c.args.input.now c.args.start c.args.code) c.args.n _ _ _ (ap (λ (n : ℕ). record { start = 0; end = n }) (omega arith)) c.all.ensures.ran (λ x b q k. search (rules, tests))
