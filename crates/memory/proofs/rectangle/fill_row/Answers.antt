use mathlib.Core.Path.{◌≡◌, sym}
use native.Mathlib.Omega.{arith}
use Rattle.memory.proofs.Put.{words_put-none, words_put-more}
use Rattle.memory.proofs.rectangle.fill_row.Goals as goal

pub returns : goal.returns
returns c =
    let all : c.loop-x.x ≡ c.args.width = omega arith in
    rw (← all) c.loop-x.invariant

pub loop-x-init : goal.loop-x-init
loop-x-init c = sym (words_put-none _ _ _)

pub loop-x-preserved : goal.loop-x-preserved
loop-x-preserved c = rw (words_put-more, ← c.loop-x.invariant) c.put_word.ensures
