-- No second answer: two results that are equal to one value are equal.
-- Assumes nothing.
use mathlib.Core.Path.{◌≡◌, sym, ◌∙◌}
use Rattle.capi.specs.OneAnswer.{OneAnswer}

both : {A : Type 0} {x r₁ r₂ : A} → r₁ ≡ x → r₂ ≡ x → r₁ ≡ r₂
both e₁ e₂ = e₁ ∙ sym e₂

pub one_answer : OneAnswer
one_answer = record {
  fresh = λ f i₁ i₂ r₁ r₂ a b. (both a.image b.image, both a.answer b.answer);
  turn = λ c i₁ i₂ m₁ m₂ p₁ p₂ t₁ t₂ r₁ r₂ a b. (
    both a.image b.image,
    both a.memory b.memory,
    both a.pipe b.pipe,
    both a.report b.report,
    both a.answer b.answer,
  );
}
