-- No second answer: any two answers, with the bytes they leave, that meet a contract are equal.
use Rattle.std.specs.Prelude.{ℕ, ◌≡◌, List}
use Rattle.spelling.specs.Put.{Put, Spelled}

pub record OneAnswer : Type 0 where
  -- of a number put over lent bytes
  pub put : (before : List ℕ) (at : ℕ) (bytes after₁ after₂ : List ℕ) (r₁ r₂ : ℕ) → Put before at bytes after₁ r₁ → Put before at bytes after₂ r₂
      → (after₁ ≡ after₂) × (r₁ ≡ r₂)
  -- of a line
  pub spelled : (line before after₁ after₂ : List ℕ) (r₁ r₂ : ℕ) → Spelled line before after₁ r₁ → Spelled line before after₂ r₂
      → (after₁ ≡ after₂) × (r₁ ≡ r₂)
