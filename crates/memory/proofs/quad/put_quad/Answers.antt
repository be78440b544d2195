use mathlib.Core.Path.{sym}
use Rattle.memory.proofs.Put.{words_put-none, words_put-more}
use Rattle.memory.proofs.quad.put_quad.Goals as goal

pub loop-i-init : goal.loop-i-init
loop-i-init c = sym (words_put-none _ _ _)

pub loop-i-preserved : goal.loop-i-preserved
loop-i-preserved c = rw (words_put-more, ← c.loop-i.invariant) c.put_word.ensures
