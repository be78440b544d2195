use mathlib.Core.Path.{◌≡◌, sym, ap, ◌∙◌}
use native.Mathlib.Omega.{arith}
use Rattle.memory.proofs.After.{after_none}
use Rattle.memory.proofs.Order.{ordered}
use Rattle.memory.proofs.Copied.{word_put, word-turn, word_turns}
use Rattle.memory.proofs.copy.copy.Goals as goal

pub returns : goal.returns
returns c =
    let a = c.args in
    let all : c.loop-i.i ≡ a.words = omega arith in
    c.loop-i.invariant
    ∙ ap (λ i. ordered a.to a.from a.words (word_put a.to a.from a.window.now) i a.window.now) all
    ∙ word_turns a.to a.from a.words a.window.now

pub loop-i-init : goal.loop-i-init
loop-i-init c = sym (after_none _ _)

pub loop-i-preserved : goal.loop-i-preserved
loop-i-preserved c =
    let a = c.args in
    let turn = c.loop-i in
    c.put_word.ensures
    ∙ word-turn a.to a.from a.words a.window.now turn.i _ _ turn.window (omega arith) c.at_turn-at.ensures.0 turn.invariant c.word_at-word.ensures
