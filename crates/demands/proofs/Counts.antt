-- What the counts tell.
-- Assumes nothing.
use mathlib.Core.Path.{◌≡◌, refl, sym, ◌∙◌}
use mathlib.Core.Bool.{Bool, true, false, cond}
use mathlib.Core.List.{[], ◌∷◌}
use Prim.Native.Nat.{ℕ, ◌+◌, ◌%◌, ◌^◌, ◌<◌}
use native.Mathlib.Omega.{arith}
use lib.Dec.{eqb}
use Rattle.std.specs.Prelude.{Ok, Some}
use Rattle.state.specs.declared.device.Device.{Device}
use Rattle.state.specs.Device.{Shaped, CountsFit, fresh_device, commands_of, outcomes_of}
use Rattle.state.specs.PlusOne.{plus_one}
use Rattle.device.specs.Answer.{Values, values_of}
use Rattle.device.specs.Turn.{Call, unchanged, finished, report_of, served_of, verdict_on, pick_in}
use Rattle.device.proofs.Shapes.{turn-shaped}
use Rattle.device.proofs.Turns.{served_in, turn_cases}
use Rattle.demands.specs.Calls.{answer_of, left_by, last_of, served_with, served_with_in}
use Rattle.demands.specs.Counting.{OneUp}
use Rattle.demands.specs.Counts.{CallsCount, FreshCounts}
use Rattle.demands.proofs.Answers.{refused_serves}
use Rattle.demands.proofs.Counting.{served-one, turn-counts-fit}
use Rattle.demands.proofs.Took.{run_took, fresh_took}

-- one more where a test holds, modulo 2^32
moves : (b : Bool) (x : ℕ) → x < 2 ^ 32 → cond b (plus_one x) x ≡ (x + cond b 1 0) % 2 ^ 32
moves true x below = refl
moves false x below = omega arith

-- a count of a served turn's values goes up by what the turn served
module _ (value : Values → ℕ) (count : Device → ℕ → ℕ) (d : Device) (call : Call)
    (one : (q : ℕ) → verdict_on d call ≡ Ok tt → pick_in d call ≡ Some q
    → OneUp (value (values_of (served_in d call q).turned.answer)) (count d) (count (served_in d call q).turned.device)) where
  served_moves : (q n : ℕ) → count d n < 2 ^ 32
      → cond (eqb n (value (values_of (served_in d call q).turned.answer))) (plus_one (count d n)) (count d n)
      ≡ (count d n + served_with value (served_in d call q).turned.answer n) % 2 ^ 32
  unfolding served_of finished report_of served_with
  served_moves q n below = moves (eqb n (value (values_of (served_in d call q).turned.answer))) (count d n) below

  turn_moves : (n : ℕ) → count d n < 2 ^ 32 → count (left_by d call) n ≡ (count d n + served_with value (answer_of d call) n) % 2 ^ 32
  unfolding unchanged served_with
  turn_moves n below =
      turn_cases d call (λ a. count a.turned.device n ≡ (count d n + served_with value a.turned.answer n) % 2 ^ 32)
      (λ why v. omega (arith, refused_serves value why n))
      (λ sound p. omega arith)
      (λ q sound p. one q sound p n ∙ served_moves q n below)

module _ (d : Device) (shaped : Shaped d) (fit : CountsFit d) (call : Call) where
  turn-commands : (q : ℕ) → commands_of (left_by d call) q ≡ (commands_of d q + served_with (λ values. values.ring) (answer_of d call) q) % 2 ^ 32
  unfolding served_of finished report_of values_of
  turn-commands q =
      turn_moves (λ values. values.ring) commands_of d call (λ r sound pick. (served-one d shaped call r sound pick).commands) q (fit.commands q)

  turn-outcomes : (k : ℕ) → outcomes_of (left_by d call) k ≡ (outcomes_of d k + served_with (λ values. values.outcome) (answer_of d call) k) % 2 ^ 32
  unfolding served_of finished report_of values_of
  turn-outcomes k =
      turn_moves (λ values. values.outcome) outcomes_of d call (λ r sound pick. (served-one d shaped call r sound pick).outcomes) k (fit.outcomes k)

pub calls_count : CallsCount
unfolding CallsCount last_of served_with_in
calls_count d shaped fit [] = record { commands = λ q. omega (arith, fit.commands q); outcomes = λ k. omega (arith, fit.outcomes k) }
calls_count d shaped fit (call ∷ calls) =
    let rest = calls_count (left_by d call) (turn-shaped d call shaped) (turn-counts-fit d call fit) calls in
    record {
      commands = λ q. omega (arith, turn-commands d shaped fit call q, rest.commands q);
      outcomes = λ k. omega (arith, turn-outcomes d shaped fit call k, rest.outcomes k);
    }

pub fresh-counts : FreshCounts
unfolding FreshCounts
fresh-counts windows limit chosen R calls each =
    let took = (run_took chosen R calls (fresh_device windows limit chosen) (λ q. 0) (fresh_took chosen R windows limit) each).1 in
    record {
      places = λ q four. rw (took.counts q four) (sym (took.cursors q four));
      whole = λ q four n below. took.whole q four n (rw (took.counts q four) at below);
      sums = took.sums;
    }
