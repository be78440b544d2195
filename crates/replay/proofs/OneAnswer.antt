-- No second answer: a text is its front and its rest.
-- Assumes nothing.
use mathlib.Core.Path.{sym, ◌∙◌}
use Rattle.replay.proofs.TextLaws.{whole}
use Rattle.replay.specs.OneAnswer.{OneAnswer}

pub one_answer : OneAnswer
one_answer = record {
  put = λ before at bytes after₁ after₂ r₁ r₂ a b. (a.stored ∙ sym b.stored, a.place ∙ sym b.place);
  appended = λ bytes n before after₁ after₂ r₁ r₂ a b. (whole bytes n before after₁ r₁ a ∙ sym (whole bytes n before after₂ r₂ b), a.counted ∙ sym b.counted);
  spelled = λ line before after₁ after₂ r₁ r₂ a b. (a.bytes ∙ sym b.bytes, a.counted ∙ sym b.counted);
}
