-- No second answer: any two results, with the slices they leave, that meet a contract are equal.
use Rattle.std.specs.Prelude.{◌≡◌, List, ℕ, Result}
use Rattle.kernel.specs.declared.step.Stepped.{Stepped}
use Rattle.kernel.specs.declared.dispatch.ThreadStop.{ThreadStop}
use Rattle.kernel.specs.Step.{State, Shows as ShowsStep}
use Rattle.kernel.specs.Dispatch.{Dispatched, ShowsRan}
use Rattle.work.specs.declared.work.Performed.{Performed}
use Rattle.work.specs.Work.{Left, Shows as ShowsWork}
use Rattle.device.specs.declared.turn.Turned.{Turned}
use Rattle.device.specs.Turn.{TurnEnd, Shows as ShowsTurn}

pub record OneAnswer : Type 1 where
  -- of a function whose contract says that its result, or what it leaves, is x
  pub value : {A : Type 0} (x r₁ r₂ : A) → r₁ ≡ x → r₂ ≡ x → r₁ ≡ r₂
  -- of one whose contract says both
  pub pair : {A B : Type 0} (x r₁ r₂ : A) (y m₁ m₂ : B) → (r₁ ≡ x) × (m₁ ≡ y) → (r₂ ≡ x) × (m₂ ≡ y) → (r₁ ≡ r₂) × (m₁ ≡ m₂)
  -- of a step and a run
  pub step : (s : State) (r₁ r₂ : Stepped) (m₁ m₂ : List ℕ) → ShowsStep r₁ m₁ s → ShowsStep r₂ m₂ s → (r₁ ≡ r₂) × (m₁ ≡ m₂)
  -- of a dispatch
  pub dispatch : (d : Dispatched) (r₁ r₂ : Result Unit ThreadStop) (m₁ m₂ : List ℕ) → ShowsRan r₁ m₁ d → ShowsRan r₂ m₂ d → (r₁ ≡ r₂) × (m₁ ≡ m₂)
  -- of a command's work
  pub command : (l : Left) (r₁ r₂ : Performed) (m₁ m₂ p₁ p₂ : List ℕ) → ShowsWork r₁ m₁ p₁ l → ShowsWork r₂ m₂ p₂ l
      → (r₁ ≡ r₂) × (m₁ ≡ m₂) × (p₁ ≡ p₂)
  -- of a turn
  pub turn : (a : TurnEnd) (r₁ r₂ : Turned) (m₁ m₂ p₁ p₂ : List ℕ) → ShowsTurn r₁ m₁ p₁ a → ShowsTurn r₂ m₂ p₂ a
      → (r₁ ≡ r₂) × (m₁ ≡ m₂) × (p₁ ≡ p₂)
