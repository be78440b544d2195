-- What the editions differ in.
-- Assumes nothing.
use mathlib.Core.Path.{◌≡◌, sym, ◌∙◌}
use mathlib.Core.Bool.{true}
use mathlib.Core.Logic.{◌↔◌}
use Prim.Native.Nat.{ℕ, ◌+◌, ◌^◌, ◌<◌}
use native.Mathlib.Omega.{arith}
use Rattle.command.specs.Outcome.{Outcome, outcome_number}
use Rattle.command.specs.Report.{emits}
use Rattle.state.specs.declared.device.Device.{Device}
use Rattle.state.specs.declared.edition.Edition.TheVariants.{One, Two}
use Rattle.state.specs.Device.{Shaped, SlotsFit, slot_of}
use Rattle.state.specs.Slots.{is_full}
use Rattle.device.specs.Answer.{Values, values_of, report_values}
use Rattle.device.specs.Turn.{Call, unchanged, device_after, finished, report_of, served_of}
use Rattle.device.proofs.Answers.{emitted_told}
use Rattle.device.proofs.Turns.{turn_cases}
use Rattle.demands.specs.Calls.{head_in, values_in}
use Rattle.demands.specs.EmitsAndWaits.{is_emitting}
use Rattle.demands.specs.Editions.{Editions, TurnEditions}
use Rattle.demands.proofs.Turns.{work_in, report_in, served_has}
use Rattle.demands.proofs.Works.{full_1, free_2, full_slot_stays, emits_when_sound, five_full}
use Rattle.demands.proofs.Devices.{after-emitted}
use Rattle.demands.proofs.Emitting.{emitting_slot}

module _ (d : Device) (call : Call) where
  -- the outcome of ring q's command, and the number that its slot holds
  abbrev outcome_in : ℕ → Outcome
  outcome_in q = (work_in d call q).performed.outcome

  abbrev slot_in : ℕ → ℕ
  slot_in q = slot_of d (head_in d call q).rdst

  abbrev told_in : ℕ → Values
  told_in q = report_values (report_in d call q)

  -- a fence is told of where the command emits
  emits_told : (q : ℕ) → (told_in q).emitted ≡ emits (head_in d call q) (outcome_in q)
  unfolding report_of
  emits_told q = emitted_told _ _

  module _ (one : d.edition ≡ One) (q : ℕ) where
    five_1 : (outcome_number (outcome_in q) ≡ 5) ↔ ((is_emitting (head_in d call q) ≡ true) × (slot_in q ≡ 4294967295))
    five_1 =
        let law = five_full _ _ _ _ _ _ _ _ in (
          λ is. let both = law.0 is in (both.0, (full_1 one).0 both.1),
          λ both. law.1 (both.0, (full_1 one).1 both.1),
        )

    -- a slot that is added to is not full, so it does not go round
    one_more : SlotsFit d → (told_in q).emitted ≡ true → (told_in q).fence ≡ slot_in q + 1
    unfolding report_of SlotsFit
    one_more fit told =
        let e : emits (head_in d call q) (outcome_in q) ≡ true = sym (emits_told q) ∙ told in
        let below : slot_in q < 2 ^ 32 = fit (head_in d call q).rdst in
        let not_full : slot_in q ≡ 4294967295 → ⊥ = λ is. full_slot_stays _ _ _ _ _ _ _ _ e ((full_1 one).1 is) in
        rw e (omega (arith, below, not_full))

  module _ (two : d.edition ≡ Two) (q : ℕ) where
    not_five : outcome_number (outcome_in q) ≡ 5 → ⊥
    not_five is =
        let full : is_full d.edition (slot_in q) ≡ true = ((five_full _ _ _ _ _ _ _ _).0 is).1 in
        let free = free_2 (slot_in q) two in
        let z : ◌≡◌ {A = ℕ} 0 1 = cc in omega arith

    signals_2 : is_emitting (head_in d call q) ≡ true → emits (head_in d call q) (outcome_in q) ≡ true
    signals_2 emitting = emits_when_sound _ _ _ _ _ _ _ _ (free_2 _ two) ∙ emitting

    -- a slot that held the largest number holds 0
    round-slot : Shaped d → is_emitting (head_in d call q) ≡ true → slot_in q ≡ 4294967295
        → slot_of (device_after d q (head_in d call q) (work_in d call q).performed) (head_in d call q).rdst ≡ 0
    round-slot shaped emitting full =
        let c = head_in d call q in
        after-emitted d q c (work_in d call q).performed shaped (emitting_slot c emitting) (signals_2 emitting) ∙ rw full

    round-fence : is_emitting (head_in d call q) ≡ true → slot_in q ≡ 4294967295
        → (told_in q).fence ≡ 0
    unfolding report_of
    round-fence emitting full = rw (signals_2 emitting, full)

  never_5 : d.edition ≡ Two → (values_in d call).outcome ≡ 5 → ⊥
  unfolding unchanged served_of finished report_of values_of
  never_5 two =
      turn_cases d call (λ a. (values_of a.turned.answer).outcome ≡ 5 → ⊥)
      (λ why v is. omega (arith, is))
      (λ sound p is. omega (arith, is))
      (λ q sound p is. not_five two q is)

  editions : Shaped d → SlotsFit d → Editions d call
  unfolding report_of
  editions shaped fit = record {
    never_5 = never_5;
    full_5 = λ one.
        served_has d call
        (λ v after. (v.outcome ≡ 5) ↔ ((is_emitting (head_in d call v.ring) ≡ true) × (slot_in v.ring ≡ 4294967295)))
        (five_1 one);
    fence_1 = λ one. served_has d call (λ v after. v.emitted ≡ true → v.fence ≡ slot_in v.ring + 1) (λ q. one_more one q fit);
    signals = λ two. served_has d call (λ v after. is_emitting (head_in d call v.ring) ≡ true → v.emitted ≡ true) (λ q emitting. emits_told q ∙ signals_2 two q emitting);
    round = λ two number emitting full. record {
      fence =
          served_has d call
          (λ v after. is_emitting (head_in d call v.ring) ≡ true → slot_in v.ring ≡ 4294967295 → v.fence ≡ 0)
          (round-fence two) number emitting full;
      slot =
          served_has d call
          (λ v after. is_emitting (head_in d call v.ring) ≡ true → slot_in v.ring ≡ 4294967295
          → slot_of after (head_in d call v.ring).rdst ≡ 0)
          (λ q. round-slot two q shaped) number emitting full;
    };
  }

pub turn-editions : TurnEditions
unfolding TurnEditions
turn-editions d shaped fit call = editions d call shaped fit
