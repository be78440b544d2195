-- A turn leaves a device's shape, its limit and its edition, and a fresh device has its shape; an emit and a count leave numbers that fit.
-- Assumes nothing.
use mathlib.Core.Path.{◌≡◌, refl, ap, ◌∙◌}
use mathlib.Core.Bool.{Bool, true, false}
use mathlib.Core.List.{List}
use Prim.Native.Nat.{ℕ}
use lib.ListN.{length, length-set}
use Rattle.words.proofs.Choices.{cond_has}
use Rattle.command.specs.Outcome.{outcome_number}
use Rattle.command.specs.declared.header.Command.{Command}
use Rattle.command.specs.Report.{emits}
use Rattle.work.specs.declared.work.Performed.{Performed}
use Rattle.state.specs.declared.device.Device.{Device}
use Rattle.state.specs.declared.device.Window.{Window}
use Rattle.state.specs.declared.edition.Start.{Start}
use Rattle.state.specs.declared.edition.Start.TheVariants.{Edition1}
use Rattle.device.specs.declared.fresh.Fresh.{Fresh}
use Rattle.state.proofs.PlusOne.{plus_one-fits, plus_one-long}
use Rattle.state.specs.Counts.{counted}
use Rattle.state.specs.Device.{Shaped, SlotsFit, CountsFit, slot_of, commands_of, outcomes_of, empty_windows, with_ring, with_slots, with_marker, with_counts, default_limit, fresh_device, empty_device}
use Rattle.device.specs.Fresh.{not_made, fresh_with}
use Rattle.state.specs.Refusal.{memory_fits, limit_fits}
use Rattle.device.specs.Turn.{Call, emit_to, device_after, finished, served_of, unchanged, turn_of}
use Rattle.device.proofs.Turns.{turn_cases}

-- an emit leaves numbers that fit
pub emit_fits : (b : Bool) (d : Device) (n : ℕ) → SlotsFit d → SlotsFit (emit_to b d n)
unfolding emit_to with_slots slot_of SlotsFit
emit_fits true d n fit m = plus_one-fits d.slots n fit m
emit_fits false d n fit m = fit m

emit_long : (b : Bool) (d : Device) (n : ℕ) → length (emit_to b d n).slots ≡ length d.slots
unfolding emit_to with_slots
emit_long true d n = plus_one-long d.slots n
emit_long false d n = refl

-- an emit changes the slots alone
pub emit_alone : (b : Bool) (d : Device) (n : ℕ) → emit_to b d n ≡ with_slots d (emit_to b d n).slots
unfolding emit_to with_slots
emit_alone true d n = refl
emit_alone false d n = refl

-- so no served command changes the limit
pub after-limit : (d : Device) (q : ℕ) (c : Command) (p : Performed) → (device_after d q c p).limit ≡ d.limit
unfolding device_after with_counts with_marker with_ring with_slots
after-limit d q c p = ap (λ after. after.limit) (emit_alone _ _ c.rdst)

-- nor the edition
pub after-edition : (d : Device) (q : ℕ) (c : Command) (p : Performed) → (device_after d q c p).edition ≡ d.edition
unfolding device_after with_counts with_marker with_ring with_slots
after-edition d q c p = ap (λ after. after.edition) (emit_alone _ _ c.rdst)

-- and each one is counted
pub after-counts : (d : Device) (q : ℕ) (c : Command) (p : Performed)
    → (device_after d q c p).counts ≡ counted d.counts q (outcome_number p.outcome)
unfolding device_after with_counts
after-counts d q c p = refl

pub after-counts-fit : (d : Device) (q : ℕ) (c : Command) (p : Performed) → CountsFit d → CountsFit (device_after d q c p)
unfolding device_after with_counts counted commands_of outcomes_of
after-counts-fit d q c p fit = record {
  commands = plus_one-fits d.counts.commands q fit.commands;
  outcomes = plus_one-fits d.counts.outcomes (outcome_number p.outcome) fit.outcomes;
}

pub after-shaped : (d : Device) (q : ℕ) (c : Command) (p : Performed) → Shaped d → Shaped (device_after d q c p)
unfolding device_after with_counts counted with_marker with_ring with_slots
after-shaped d q c p s = record {
  rings = rw (emit_alone _ _ c.rdst) (length-set d.rings q _ ∙ s.rings);
  slots = emit_long (emits c p.outcome) _ c.rdst ∙ s.slots;
  commands = plus_one-long d.counts.commands q ∙ s.commands;
  outcomes = plus_one-long d.counts.outcomes _ ∙ s.outcomes;
}

-- so a turn leaves a shaped device shaped
pub turn-shaped : (d : Device) (call : Call) → Shaped d → Shaped (turn_of d call).turned.device
unfolding unchanged served_of finished
turn-shaped d call s =
    turn_cases d call (λ end. Shaped end.turned.device) (λ why v. s) (λ sound p. s) (λ q sound p. after-shaped d q _ _ s)

pub fresh-shaped : (windows : List Window) (limit : ℕ) (start : Start) → Shaped (fresh_device windows limit start)
unfolding fresh_device
fresh-shaped windows limit start = record { rings = refl; slots = refl; commands = refl; outcomes = refl }

empty-shaped : Shaped empty_device
unfolding empty_device
empty-shaped = fresh-shaped empty_windows default_limit Edition1

-- what holds of the empty device, and of a fresh one if it is made, holds of what a making gives
pub made_each : (P : Device → Type 0) (memory : ℕ) (windows : List Window) (limit : ℕ) (start : Start) → P empty_device
    → (limit_fits limit ≡ true → P (fresh_device windows limit start)) → P (fresh_with memory windows limit start).device
unfolding fresh_with not_made
made_each P memory windows limit start empty fresh =
    let Has : Fresh → Type 0 = λ made. P made.device in
    cond_has Has (memory_fits memory windows) (λ fits. cond_has Has (limit_fits limit) fresh (λ unfit. empty))
    (λ unfit. empty)

pub made_shaped : (memory : ℕ) (windows : List Window) (limit : ℕ) (start : Start)
    → Shaped (fresh_with memory windows limit start).device
made_shaped memory windows limit start =
    made_each Shaped memory windows limit start empty-shaped (λ limited. fresh-shaped windows limit start)
