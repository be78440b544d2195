use lib.Seq.{take_all}
use mathlib.Core.Path.{◌≡◌, ◌∙◌, sym}
use native.Mathlib.Omega.{arith}
use lib.ListN.{length}
use Rattle.capi.proofs.lent.take_words.Goals as goal

pub returns : goal.returns
returns c = let turn = c.loop-i in
    let words = c.args.words.now in
    let all : turn.i ≡ length words = omega arith in
    sym (take_all (length words) turn.words (omega arith)) ∙ rw (← all) turn.invariant.2
