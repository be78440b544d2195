-- Demand 2: what a turn counts.
use Rattle.std.specs.Prelude.{ℕ, ◌≤◌, ◌≡◌, cond, eqb}
use Rattle.state.specs.declared.device.Device.{Device}
use Rattle.state.specs.Device.{Shaped, CountsFit, commands_of, outcomes_of}
use Rattle.state.specs.PlusOne.{plus_one}
use Rattle.device.specs.Turn.{Call}
use Rattle.demands.specs.Calls.{left_by, number_in, values_in, ring_served}

-- of some counts the n-th is one more, from 4,294,967,295 round to 0, and every other is as it was
abbrev pub OneUp : ℕ → (ℕ → ℕ) → (ℕ → ℕ) → Type 0
OneUp n before after = (m : ℕ) → after m ≡ cond (eqb m n) (plus_one (before m)) (before m)

-- a command of ring q that had outcome k is counted, and the other seventeen counts stay
pub record CountsOne (d : Device) (q k : ℕ) (after : Device) : Type 0 where
  pub commands : OneUp q (commands_of d) (commands_of after)
  pub outcomes : OneUp k (outcomes_of d) (outcomes_of after)

-- of a turn on any input
pub record Counting (d : Device) (call : Call) : Type 0 where
  -- a served one counts its ring's command and its outcome
  pub served : number_in d call ≡ 0 → CountsOne d (ring_served d call) (values_in d call).outcome (left_by d call)
  -- an idle or refused one counts nothing
  pub not_served : 1 ≤ number_in d call → (left_by d call).counts ≡ d.counts
  -- counts of 32 bits stay so
  pub fit : CountsFit d → CountsFit (left_by d call)

-- of every device of the right form
unfoldable pub TurnCounts : Type 0
TurnCounts = (d : Device) → Shaped d → (call : Call) → Counting d call
