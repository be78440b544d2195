use mathlib.Core.Path.{◌∙◌}
use Rattle.capi.proofs.WordBytes.{words_more}
use Rattle.capi.proofs.lent.put_words.Goals as goal

pub loop-i-preserved : goal.loop-i-preserved
loop-i-preserved c =
    let turn = c.loop-i in
    c.put_word.ensures ∙ rw turn.invariant (words_more _ _ turn.i c.args.words.now c.loop-i-test.true)
