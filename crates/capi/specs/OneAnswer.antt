-- No second answer: any two results, with the bytes they leave, that meet a contract of a call are equal.
use Rattle.std.specs.Prelude.{ℕ, ◌≡◌, List}
use Rattle.capi.specs.Calls.{Freshened, Freshens, Called, Leaves}

pub record OneAnswer : Type 0 where
  -- of `fv_fresh`, `fv_fresh_with` and `fv_fresh_edition_2`
  pub fresh : (f : Freshened) (i₁ i₂ : List ℕ) (r₁ r₂ : ℕ) → Freshens i₁ r₁ f → Freshens i₂ r₂ f → (i₁ ≡ i₂) × (r₁ ≡ r₂)
  -- of `fv_turn`
  pub turn : (c : Called) (i₁ i₂ m₁ m₂ p₁ p₂ t₁ t₂ : List ℕ) (r₁ r₂ : ℕ) → Leaves i₁ m₁ p₁ t₁ r₁ c → Leaves i₂ m₂ p₂ t₂ r₂ c
      → (i₁ ≡ i₂) × (m₁ ≡ m₂) × (p₁ ≡ p₂) × (t₁ ≡ t₂) × (r₁ ≡ r₂)
