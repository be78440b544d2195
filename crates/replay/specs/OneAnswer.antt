-- No second answer: any two answers, with the text they leave, that meet a contract are equal.
use Rattle.std.specs.Prelude.{ℕ, ◌≡◌, List}
use Rattle.spelling.specs.Put.{Put, Spelled}
use Rattle.replay.specs.Text.{Appended}

pub record OneAnswer : Type 0 where
  -- of bytes put over others
  pub put : (before : List ℕ) (at : ℕ) (bytes after₁ after₂ : List ℕ) (r₁ r₂ : ℕ) → Put before at bytes after₁ r₁ → Put before at bytes after₂ r₂
      → (after₁ ≡ after₂) × (r₁ ≡ r₂)
  -- of bytes put after the first n
  pub appended : (bytes : List ℕ) (n : ℕ) (before after₁ after₂ : List ℕ) (r₁ r₂ : ℕ) → Appended bytes n before after₁ r₁ → Appended bytes n before after₂ r₂
      → (after₁ ≡ after₂) × (r₁ ≡ r₂)
  -- of a line, or a whole text
  pub spelled : (line before after₁ after₂ : List ℕ) (r₁ r₂ : ℕ) → Spelled line before after₁ r₁ → Spelled line before after₂ r₂
      → (after₁ ≡ after₂) × (r₁ ≡ r₂)
