-- What a turn counts.
-- Assumes nothing.
use mathlib.Core.Path.{◌≡◌, ap, subst}
use Prim.Native.Nat.{ℕ}
use Rattle.std.specs.Prelude.{Ok, Some}
use Rattle.command.specs.Outcome.{outcome_number}
use Rattle.state.specs.declared.device.Device.{Device}
use Rattle.state.specs.Device.{Shaped, CountsFit}
use Rattle.device.specs.declared.turn.Report.{Report}
use Rattle.device.specs.declared.turn.Answer.TheVariants.{Served}
use Rattle.device.specs.Answer.{values_of}
use Rattle.device.specs.Turn.{Call, unchanged, finished, report_of, served_of, verdict_on, pick_in}
use Rattle.device.proofs.Shapes.{after-counts-fit}
use Rattle.device.proofs.Turns.{served_in, turn_cases, picked_servable}
use Rattle.demands.specs.Calls.{head_in, left_by, ring_served}
use Rattle.demands.specs.Counting.{CountsOne, TurnCounts}
use Rattle.demands.proofs.Turns.{work_in, WasServed, served_as}
use Rattle.demands.proofs.Keeps.{not_served-same}
use Rattle.demands.proofs.Devices.{after-counts-one}

-- a served turn counts its command
module _ (d : Device) (shaped : Shaped d) (call : Call) where
  pub served-one : (q : ℕ) → verdict_on d call ≡ Ok tt → pick_in d call ≡ Some q
      → CountsOne d q (outcome_number (work_in d call q).performed.outcome) (served_in d call q).turned.device
  unfolding served_of finished
  served-one q sound pick = after-counts-one d q (head_in d call q) (work_in d call q).performed shaped (picked_servable d call q sound pick).number

  -- which the values of its report tell
  told_one : (report : Report) → WasServed d call report
      → CountsOne d (values_of (Served report)).ring (values_of (Served report)).outcome (left_by d call)
  unfolding values_of report_of
  told_one report was =
      rw (left_by, was.after)
      (subst (λ (r : Report). CountsOne d report.ring (outcome_number r.outcome) (served_in d call report.ring).turned.device) was.told
      (served-one report.ring was.sound was.pick))

pub turn-counts-fit : (d : Device) (call : Call) → CountsFit d → CountsFit (left_by d call)
unfolding unchanged served_of finished
turn-counts-fit d call fit =
    turn_cases d call (λ a. CountsFit a.turned.device) (λ why v. fit) (λ sound p. fit) (λ q sound p. after-counts-fit d q _ _ fit)

pub turn-counts : TurnCounts
unfolding TurnCounts
turn-counts d shaped call = record {
  served = λ number. let s = served_as d call number in rw (ring_served, s.values) (told_one d shaped call s.report s.was);
  not_served = λ number. ap (λ left. left.counts) (not_served-same d call number).device;
  fit = turn-counts-fit d call;
}
