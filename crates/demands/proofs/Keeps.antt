-- What a turn leaves as it was.
-- Assumes nothing.
use mathlib.Core.Path.{◌≡◌, refl, sym, ap, subst, ◌∙◌}
use Prim.Native.Nat.{ℕ, ◌+◌, ◌≤◌}
use native.Mathlib.Omega.{arith}
use lib.ListN.{length, get_or}
use Rattle.memory.proofs.Window.{window-length, put_back-window, put_back-length, put_back-outside}
use Rattle.command.specs.Outcome.{outcome_number}
use Rattle.command.specs.Report.{words_read}
use Rattle.work.proofs.Reports as work
use Rattle.state.specs.declared.device.Device.{Device}
use Rattle.device.specs.declared.turn.Report.{Report}
use Rattle.state.specs.Device.{ring_of}
use Rattle.device.specs.Answer.{answer_number, values_of}
use Rattle.device.specs.Turn.{Call, unchanged, device_after, report_of, finished, served_of, turn_of}
use Rattle.demands.specs.Calls.{head_in, left_by, number_in, values_in}
use Rattle.demands.specs.Keeps.{Same, SameBytes, OutsideOf, PipeKept, Keeps, TurnKeeps}
use Rattle.device.proofs.Shapes.{after-limit, after-edition}
use Rattle.device.proofs.Turns.{served_in, turn_cases, picked_servable}
use Rattle.demands.proofs.Turns.{work_in, served_as}
use Rattle.demands.proofs.Works.{window_stays, pipe_stays}
use Rattle.demands.proofs.Devices.{after-frames}

module _ (d : Device) (call : Call) where
  -- a turn that serves no ring
  pub not_served-same : 1 ≤ number_in d call → Same d call (turn_of d call)
  unfolding unchanged served_of finished report_of values_of
  not_served-same =
      turn_cases d call (λ a. 1 ≤ answer_number a.turned.answer → Same d call a)
      (λ why v least. record { device = refl; memory = refl; pipe = refl; values = refl })
      (λ sound p least. record { device = refl; memory = refl; pipe = refl; values = refl })
      (λ q sound p least. absurd (omega arith))

  module _ (q : ℕ) (fits : (ring_of d q).window.start + (ring_of d q).window.length ≤ length call.memory) where
    work_length : length (work_in d call q).window ≡ (ring_of d q).window.length
    work_length = window_stays _ _ _ _ _ _ _ _ ∙ window-length (ring_of d q).window.start (ring_of d q).window.length call.memory fits

    served-long : length (served_in d call q).memory ≡ length call.memory
    unfolding served_of
    served-long =
        put_back-length (ring_of d q).window.start (ring_of d q).window.length call.memory fits (work_in d call q).window work_length

    served-outside : (i : ℕ) → OutsideOf (ring_of d q).window i → get_or (served_in d call q).memory i 0 ≡ get_or call.memory i 0
    unfolding served_of
    served-outside =
        put_back-outside (ring_of d q).window.start (ring_of d q).window.length call.memory fits (work_in d call q).window work_length

    served-faults : 1 ≤ outcome_number (work_in d call q).performed.outcome → outcome_number (work_in d call q).performed.outcome ≤ 10
        → SameBytes d call (served_in d call q)
    unfolding served_of finished
    served-faults low high =
        let kept = work.unchanged _ _ _ _ _ _ _ _ low high in
        record {
          memory = rw kept.0 (put_back-window (ring_of d q).window.start (ring_of d q).window.length call.memory fits);
          pipe = kept.1;
          frame = after-frames d q _ _ kept.2;
        }

  served-pipe : (q : ℕ) → PipeKept (words_read (head_in d call q) (work_in d call q).performed.outcome) call.pipe (served_in d call q).pipe
  unfolding served_of
  served-pipe q = pipe_stays _ _ _ _ _ _ _ _

  -- a part of the device that no served command changes
  left-same : {A : Type 0} (part : Device → A)
      → ((q : ℕ) → part (device_after d q (head_in d call q) (work_in d call q).performed) ≡ part d) → part (left_by d call) ≡ part d
  unfolding unchanged served_of finished
  left-same part each =
      turn_cases d call (λ a. part a.turned.device ≡ part d) (λ why v. refl) (λ sound p. refl) (λ q sound p. each q)

  pub keeps : Keeps d call
  unfolding unchanged values_of report_of
  keeps = record {
    refused = λ number. not_served-same (omega arith);
    idle = λ number. not_served-same (omega arith);
    faults = λ number low high.
        let s = served_as d call number in
        let q = s.report.ring in
        let same : outcome_number (work_in d call q).performed.outcome ≡ (values_in d call).outcome =
        ap (λ r. outcome_number r.outcome) s.was.told ∙ sym (ap (λ v. v.outcome) s.values) in
        rw s.was.after (served-faults q (picked_servable d call q s.was.sound s.was.pick).fits (rw same low) (rw same high));
    outside = λ number i out.
        let s = served_as d call number in
        let q = s.report.ring in
        rw s.was.after
        (served-outside q (picked_servable d call q s.was.sound s.was.pick).fits i (rw (ap (λ v. v.ring) s.values) at out));
    long = turn_cases d call (λ a. length a.memory ≡ length call.memory) (λ why v. refl) (λ sound p. refl)
        (λ q sound p. served-long q (picked_servable d call q sound p).fits);
    pipe = λ number.
        let s = served_as d call number in
        let kept : Report → Type 0 = λ r. PipeKept r.words call.pipe (served_in d call s.report.ring).pipe in
        rw (s.values, s.was.after) (subst kept s.was.told (served-pipe s.report.ring));
    limit = left-same (λ d. d.limit) (λ q. after-limit d q _ _);
    edition = left-same (λ d. d.edition) (λ q. after-edition d q _ _);
  }

pub turn-keeps : TurnKeeps
unfolding TurnKeeps
turn-keeps d call = keeps d call
