use mathlib.Core.Path.{◌≡◌}
use native.Mathlib.Omega.{arith}
use lib.ListN.{length}
use Rattle.capi.specs.Image.{counts_words, commands_at, outcomes_at}
use Rattle.capi.proofs.WordBytes.{words_then}
use borrow.Author.Rules.{rules}
use Rattle.capi.proofs.image.put_counts.Goals as goal

pub returns : goal.returns
unfolding counts_words
returns c =
    let counts = c.args.counts in
    let four : length counts.commands ≡ 4 = search rules in
    words_then c.args.image.now commands_at counts.commands outcomes_at counts.outcomes (omega arith)
    c.put_words.ensures c.put_words-2.ensures
