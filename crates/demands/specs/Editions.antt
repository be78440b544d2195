-- Demand 2: what the editions differ in, beside their waits.
use Rattle.std.specs.Prelude.{ℕ, ◌+◌, ◌≡◌, true, ◌↔◌}
use Rattle.state.specs.declared.device.Device.{Device}
use Rattle.state.specs.declared.edition.Edition.TheVariants.{One, Two}
use Rattle.state.specs.Device.{Shaped, SlotsFit, slot_of}
use Rattle.device.specs.Turn.{Call}
use Rattle.demands.specs.Calls.{left_by, number_in, values_in, command_served}
use Rattle.demands.specs.EmitsAndWaits.{is_emitting}

-- the number that the slot of the served command held
abbrev pub slot_before : Device → Call → ℕ
slot_before d call = slot_of d (command_served d call).rdst

-- the slot of the served command has gone round: it holds 0, and that is the fence
pub record GoesRound (d : Device) (call : Call) : Type 0 where
  pub fence : (values_in d call).fence ≡ 0
  pub slot : slot_of (left_by d call) (command_served d call).rdst ≡ 0

-- of a turn on any input
pub record Editions (d : Device) (call : Call) : Type 0 where
  -- edition 2 never gives outcome 5
  pub never_5 : d.edition ≡ Two → (values_in d call).outcome ≡ 5 → ⊥
  -- edition 1 gives it exactly to a command that emits to a slot that held 4,294,967,295
  pub full_5 : d.edition ≡ One → number_in d call ≡ 0
      → ((values_in d call).outcome ≡ 5) ↔ ((is_emitting (command_served d call) ≡ true) × (slot_before d call ≡ 4294967295))
  -- so there a fence is one more than its slot held, with no turning point
  pub fence_1 : d.edition ≡ One → number_in d call ≡ 0 → (values_in d call).emitted ≡ true → (values_in d call).fence ≡ slot_before d call + 1
  -- in edition 2 a command that emits signals, whatever its slot held and whether it was done or failed with 6 to 14
  pub signals : d.edition ≡ Two → number_in d call ≡ 0 → is_emitting (command_served d call) ≡ true → (values_in d call).emitted ≡ true
  -- and a slot that held 4,294,967,295 goes round
  pub round : d.edition ≡ Two → number_in d call ≡ 0 → is_emitting (command_served d call) ≡ true → slot_before d call ≡ 4294967295
      → GoesRound d call

-- of every device of the right form whose slots hold 32-bit numbers
unfoldable pub TurnEditions : Type 0
TurnEditions = (d : Device) → Shaped d → SlotsFit d → (call : Call) → Editions d call
