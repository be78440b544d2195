-- What a served command changes in the device.
-- Assumes nothing.
use mathlib.Core.Path.{◌≡◌, refl}
use mathlib.Core.Bool.{Bool, true, false}
use mathlib.Core.List.{List, [], ◌∷◌}
use Prim.Native.Nat.{ℕ, zero, suc, ◌^◌, ◌≤◌, ◌<◌}
use native.Mathlib.Nat.{le_refl}
use native.Mathlib.Omega.{arith}
use lib.ListN.{length, get_or, set}
use lib.Seq.{get_or-set_same, get_or-set_other}
use Rattle.command.specs.declared.header.Command.{Command}
use Rattle.work.specs.declared.work.Performed.{Performed}
use Rattle.command.specs.Outcome.{outcome_number}
use Rattle.command.specs.Report.{emits}
use Rattle.state.specs.declared.device.Ring.{Ring}
use Rattle.state.specs.declared.device.Device.{Device}
use Rattle.state.specs.PlusOne.{plus_one_at}
use Rattle.state.specs.Slots.{emitted}
use Rattle.state.specs.Counts.{counted, balanced}
use Rattle.state.specs.Device.{Shaped, SlotsFit, empty_window, fresh_ring, ring_of, slot_of, commands_of, outcomes_of, with_ring, with_slots, with_marker, with_counts}
use Rattle.state.specs.Ready.{next_ring}
use Rattle.device.specs.Turn.{emit_to, ring_after, device_after}
use Rattle.device.proofs.Untaken.{rings-after}
use Rattle.command.proofs.Outcomes.{outcome_below}
use Rattle.state.proofs.Places.{put_each}
use Rattle.state.proofs.PlusOne.{one_up, counted-balanced}
use Rattle.device.proofs.Shapes.{emit_fits, after-counts}
use Rattle.demands.specs.Counting.{CountsOne}

-- a number put in one place of a list, no less than what it held, lowers no place
put_rises : (xs : List ℕ) (n v m : ℕ) → get_or xs n 0 ≤ v → get_or xs m 0 ≤ get_or (set xs n v) m 0
put_rises [] n v m h = le_refl _
put_rises (x ∷ xs) zero v zero h = h
put_rises (x ∷ xs) zero v (suc m) h = le_refl _
put_rises (x ∷ xs) (suc n) v zero h = le_refl _
put_rises (x ∷ xs) (suc n) v (suc m) h = put_rises xs n v m h

pub emit_rises : (b : Bool) (d : Device) (n : ℕ) → SlotsFit d → (b ≡ true → slot_of d n ≡ 4294967295 → ⊥) → (m : ℕ)
    → slot_of d m ≤ slot_of (emit_to b d n) m
unfolding emit_to with_slots plus_one_at slot_of SlotsFit
emit_rises true d n fit room m =
    let below : get_or d.slots n 0 < 2 ^ 32 = fit n in
    let not_full : get_or d.slots n 0 ≡ 4294967295 → ⊥ = room refl in
    let free : get_or d.slots n 0 < 4294967295 = omega (arith, not_full) in
    put_rises d.slots n (emitted (get_or d.slots n 0)) m (omega arith)
emit_rises false d n fit room m = le_refl _

module _ (d : Device) (q : ℕ) (c : Command) (p : Performed) where
  -- the marker becomes the ring after the served one
  pub after-marker : (device_after d q c p).marker ≡ next_ring q
  unfolding device_after with_counts with_marker
  after-marker = refl

  -- no slot is lowered unless a full one is added to
  pub after_rises : SlotsFit d → (emits c p.outcome ≡ true → slot_of d c.rdst ≡ 4294967295 → ⊥) → (m : ℕ)
      → slot_of d m ≤ slot_of (device_after d q c p) m
  unfolding device_after with_counts with_marker with_ring slot_of SlotsFit
  after_rises fit room m = emit_rises (emits c p.outcome) (with_ring d q (ring_after (ring_of d q) c p.frame)) c.rdst fit room m

  pub after-fits : SlotsFit d → SlotsFit (device_after d q c p)
  unfolding device_after with_counts with_marker with_ring slot_of SlotsFit
  after-fits fit = emit_fits (emits c p.outcome) (with_ring d q (ring_after (ring_of d q) c p.frame)) c.rdst fit

  -- what holds of the served ring after its command, if it is ring n, and held of ring n, holds of ring n
  pub after-ring : (P : Ring → Type 0) (n : ℕ) → (n ≡ q → P (ring_after (ring_of d q) c p.frame)) → P (ring_of d n) → P (ring_of (device_after d q c p) n)
  unfolding ring_of
  after-ring P n new old = rw (rings-after d q c p) (put_each P (fresh_ring empty_window) d.rings q (ring_after (ring_of d q) c p.frame) n new old)

  -- the windows stay
  pub after-windows : (n : ℕ) → (ring_of (device_after d q c p) n).window ≡ (ring_of d n).window
  unfolding ring_after
  after-windows n = after-ring (λ r. r.window ≡ (ring_of d n).window) n (λ e. rw e) refl

  -- the frames stay where the command leaves its ring's
  pub after-frames : p.frame ≡ (ring_of d q).frame → (n : ℕ) → (ring_of (device_after d q c p) n).frame ≡ (ring_of d n).frame
  unfolding ring_after
  after-frames same n = after-ring (λ r. r.frame ≡ (ring_of d n).frame) n (λ e. rw e same) refl

  -- an emit puts the new number in its slot, and nothing else changes a slot
  pub after_emit : emits c p.outcome ≡ true → (device_after d q c p).slots ≡ set d.slots c.rdst (emitted (slot_of d c.rdst))
  unfolding device_after with_counts with_marker with_ring emit_to with_slots plus_one_at slot_of
  after_emit e = rw e

  pub after-emitted : Shaped d → c.rdst < 64 → emits c p.outcome ≡ true
      → slot_of (device_after d q c p) c.rdst ≡ emitted (slot_of d c.rdst)
  unfolding slot_of
  after-emitted shaped below e = rw (after_emit e) (get_or-set_same d.slots c.rdst _ 0 (omega (arith, below, shaped.slots)))

  pub after_no_emit : emits c p.outcome ≡ false → (device_after d q c p).slots ≡ d.slots
  unfolding device_after with_counts with_marker with_ring emit_to with_slots
  after_no_emit e = rw e

  pub after_other_slot : (n : ℕ) → (n ≡ c.rdst → ⊥) → slot_of (device_after d q c p) n ≡ slot_of d n
  unfolding slot_of
  after_other_slot n other = go (emits c p.outcome) refl
    where
      go : (b : Bool) → emits c p.outcome ≡ b → get_or (device_after d q c p).slots n 0 ≡ get_or d.slots n 0
      go true e = rw (after_emit e) (get_or-set_other d.slots c.rdst n _ 0 other)
      go false e = rw (after_no_emit e)

module _ (d : Device) (q : ℕ) (c : Command) (p : Performed) (shaped : Shaped d) (four : q < 4) where
  ring-counted : q < length d.counts.commands
  ring-counted = omega (arith, shaped.commands)

  outcome-counted : outcome_number p.outcome < length d.counts.outcomes
  outcome-counted = omega (arith, shaped.outcomes, outcome_below p.outcome)

  -- the command is counted
  pub after-counts-one : CountsOne d q (outcome_number p.outcome) (device_after d q c p)
  unfolding commands_of outcomes_of counted
  after-counts-one =
      let told = after-counts d q c p in
      record {
        commands = λ m. rw told (one_up d.counts.commands q ring-counted m);
        outcomes = λ m. rw told (one_up d.counts.outcomes (outcome_number p.outcome) outcome-counted m);
      }

  -- so the two sums still agree
  pub after-balanced : balanced d.counts ≡ true → balanced (device_after d q c p).counts ≡ true
  after-balanced agree =
      rw (after-counts d q c p) (counted-balanced d.counts q (outcome_number p.outcome) ring-counted outcome-counted agree)
