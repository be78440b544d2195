-- What is known of a turn that served a ring.
-- Assumes nothing.
use mathlib.Core.Path.{◌≡◌, refl, sym, ap, ◌∙◌}
use Prim.Native.Nat.{ℕ}
use native.Mathlib.Omega.{arith}
use mathlib.Core.Bool.{false}
use Rattle.std.specs.Prelude.{Ok, Some}
use Rattle.memory.specs.Window.{window_of}
use Rattle.work.specs.Perform.{performed_of}
use Rattle.work.specs.Work.{Left}
use Rattle.state.specs.declared.device.Device.{Device}
use Rattle.device.specs.declared.turn.Report.{Report}
use Rattle.device.specs.declared.turn.Answer.{Answer}
use Rattle.device.specs.declared.turn.Answer.TheVariants.{Refused as RefusedFor, Idle, Served}
use Rattle.state.specs.Device.{ring_of, slot_of}
use Rattle.device.specs.Answer.{Values, answer_number, values_of, report_values}
use Rattle.device.specs.Turn.{Call, unchanged, device_after, report_of, finished, served_of, verdict_on, turn_of, ring_in, pick_in}
use Rattle.demands.specs.Calls.{head_in, answer_of, left_by, number_in, values_in, is_refused}
use Rattle.device.proofs.Answers.{refusal_least, served-report}
use Rattle.state.specs.Slots.{is_full}
use Rattle.device.proofs.Turns.{served_in, turn_cases}

-- the report of an answer; of another answer, the one given
abbrev pub told_by : Report → Answer → Report
told_by other (RefusedFor why) = other
told_by other Idle = other
told_by other (Served report) = report

-- ring q's command, and what is reported of it
abbrev pub work_in : Device → Call → ℕ → Left
work_in d call q =
    performed_of (head_in d call q) (is_full d.edition (slot_of d (head_in d call q).rdst)) (ring_in call q)
    (window_of (ring_of d q).window.start (ring_of d q).window.length call.memory) (ring_of d q).frame call.pack call.pipe d.limit

abbrev pub report_in : Device → Call → ℕ → Report
report_in d call q = report_of d q (head_in d call q) (work_in d call q).performed

-- what is known of a turn that served a ring
pub record WasServed (d : Device) (call : Call) (report : Report) : Type 0 where
  pub sound : verdict_on d call ≡ Ok tt
  pub pick : pick_in d call ≡ Some report.ring
  pub after : turn_of d call ≡ served_in d call report.ring
  pub told : report_in d call report.ring ≡ report

pub was_served : (d : Device) (call : Call) (report : Report) → answer_of d call ≡ Served report → WasServed d call report
unfolding unchanged served_of finished report_of
was_served d call report e =
    turn_cases d call (λ a. a ≡ turn_of d call → a.turned.answer ≡ Served report → WasServed d call report)
    (λ why v same a. absurd (grind arith))
    (λ sound p same a. absurd (grind arith))
    (λ q sound p same a.
    let told : report_in d call q ≡ report = ap (told_by report) a in
    let ring : q ≡ report.ring = ap (λ r. r.ring) told in
    record { sound = sound; pick = p ∙ ap Some ring; after = sym same ∙ ap (served_in d call) ring; told = rw ring at told })
    refl e

-- and of a turn whose number is 0
pub record ServedAs (d : Device) (call : Call) : Type 0 where
  pub report : Report
  pub was : WasServed d call report
  pub values : values_in d call ≡ values_of (Served report)

pub served_as : (d : Device) (call : Call) → number_in d call ≡ 0 → ServedAs d call
served_as d call number =
    let told = served-report (answer_of d call) number in
    record { report = told.0; was = was_served d call told.0 told.1; values = ap values_of told.1 }

-- what holds of a turn that serves ring q, whichever it is, holds of one whose number is 0
pub served_has : (d : Device) (call : Call) (P : Values → Device → Type 0)
    → ((q : ℕ) → P (report_values (report_in d call q)) (device_after d q (head_in d call q) (work_in d call q).performed)) → number_in d call ≡ 0
    → P (values_in d call) (left_by d call)
unfolding unchanged served_of finished values_of
served_has d call P each =
    turn_cases d call (λ a. answer_number a.turned.answer ≡ 0 → P (values_of a.turned.answer) a.turned.device)
    (λ why v number. absurd (omega (arith, refusal_least why, number)))
    (λ sound p number. absurd (omega (arith, number)))
    (λ q sound p number. each q)

-- a served call is not refused
pub served-heard : (d : Device) (call : Call) (r : ℕ) → is_refused (served_in d call r).turned.answer ≡ false
unfolding served_of finished report_of is_refused
served-heard d call r = refl
