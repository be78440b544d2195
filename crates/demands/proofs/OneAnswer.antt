-- No second answer: two results that are equal to one value are equal.
-- Assumes nothing.
use mathlib.Core.Path.{◌≡◌, sym, ◌∙◌}
use Rattle.demands.specs.OneAnswer.{OneAnswer}

both : {A : Type 0} {x r₁ r₂ : A} → r₁ ≡ x → r₂ ≡ x → r₁ ≡ r₂
both e₁ e₂ = e₁ ∙ sym e₂

pub one_answer : OneAnswer
one_answer = record {
  value = λ x r₁ r₂ e₁ e₂. both e₁ e₂;
  pair = λ x r₁ r₂ y m₁ m₂ a b. (both a.0 b.0, both a.1 b.1);
  step = λ s r₁ r₂ m₁ m₂ a b. (both a.answer b.answer, both a.window b.window);
  dispatch = λ d r₁ r₂ m₁ m₂ a b. (both a.answer b.answer, both a.window b.window);
  command = λ l r₁ r₂ m₁ m₂ p₁ p₂ a b. (both a.answer b.answer, both a.window b.window, both a.pipe b.pipe);
  turn = λ x r₁ r₂ m₁ m₂ p₁ p₂ a b. (both a.answer b.answer, both a.memory b.memory, both a.pipe b.pipe);
}
