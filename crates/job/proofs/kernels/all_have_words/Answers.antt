use Rattle.std.proofs.Common.{arith, rules, ℕ, ap}
use borrow.Author.Tests.{tests}
use Rattle.words.proofs.AllInRange.{all_in_range}
use Rattle.job.specs.Kernels.{has_word}
use Rattle.job.proofs.kernels.all_have_words.Goals as goal

pub returns : goal.returns
returns c = all_in_range (has_word c.args.input.now c.args.start) c.args.n _ _ _ (ap (λ (n : ℕ). record { start = 0; end = n }) (omega arith)) c.all.ensures.ran (λ x b q k. search (rules, tests))
