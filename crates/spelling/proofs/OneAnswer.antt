-- No second answer: two results that are equal to one value are equal.
-- Assumes nothing.
use mathlib.Core.Path.{sym, ◌∙◌}
use Rattle.spelling.specs.OneAnswer.{OneAnswer}

pub one_answer : OneAnswer
one_answer = record {
  put = λ before at bytes after₁ after₂ r₁ r₂ a b. (a.stored ∙ sym b.stored, a.place ∙ sym b.place);
  spelled = λ line before after₁ after₂ r₁ r₂ a b. (a.bytes ∙ sym b.bytes, a.counted ∙ sym b.counted);
}
