-- A turn is refused, idle or served, and what a served ring has.
-- Assumes nothing.
use mathlib.Core.Path.{◌≡◌, refl, ap}
use Prim.Native.Nat.{ℕ, ◌≤◌}
use lib.ListN.{length}
use Rattle.std.specs.Prelude.{Option, Some, None, Result, Ok, Err}
use Rattle.state.specs.declared.device.Device.{Device}
use Rattle.state.specs.declared.refusal.Refusal.{Refusal}
use Rattle.device.specs.declared.turn.Answer.TheVariants.{Refused, Idle}
use Rattle.device.specs.Turn.{Call, TurnEnd, ring_in, pick_in, unchanged, served_of, picked_of, judged_of, verdict_on, turn_of, Servable}
use Rattle.device.proofs.Verdicts.{memory-short, steady, servable}
use Rattle.state.specs.Ready.{Steady}

-- a turn that serves ring q
abbrev pub served_in : Device → Call → ℕ → TurnEnd
served_in d call q = served_of d q (ring_in call q) call.memory call.pack call.pipe

-- what holds of a refused, an idle and a served turn holds of every turn
pub turn_cases : (d : Device) (call : Call) (P : TurnEnd → Type 0)
    → ((why : Refusal) → verdict_on d call ≡ Err why → P (unchanged d call (Refused why)))
    → (verdict_on d call ≡ Ok tt → pick_in d call ≡ None → P (unchanged d call Idle))
    → ((q : ℕ) → verdict_on d call ≡ Ok tt → pick_in d call ≡ Some q → P (served_in d call q))
    → P (turn_of d call)
unfolding turn_of judged_of picked_of
turn_cases d call P refused idle served = judged (verdict_on d call) refl
  where
    picked : verdict_on d call ≡ Ok tt → (p : Option ℕ) → pick_in d call ≡ p → P (picked_of d call p)
    picked sound (Some q) e = served q sound e
    picked sound None e = idle sound e

    judged : (v : Result Unit Refusal) → verdict_on d call ≡ v → P (judged_of d call v)
    judged (Ok sound) e = picked e (pick_in d call) refl
    judged (Err why) e = refused why e

-- a refused call
pub turn-refused : (d : Device) (call : Call) (why : Refusal) → verdict_on d call ≡ Err why → turn_of d call ≡ unchanged d call (Refused why)
unfolding turn_of judged_of
turn-refused d call why e = ap (judged_of d call) e

-- a call that is not refused finds the marker among the rings, and cursors that fit
pub call_steady : (d : Device) (call : Call) → verdict_on d call ≡ Ok tt → Steady d
unfolding verdict_on
call_steady d call = steady d (length call.memory) call.ring0 call.ring1 call.ring2 call.ring3 (length call.pipe) call.pack

-- and a memory of at most 1,048,576 bytes
pub call_short : (d : Device) (call : Call) → verdict_on d call ≡ Ok tt → length call.memory ≤ 1048576
unfolding verdict_on
call_short d call = memory-short d (length call.memory) call.ring0 call.ring1 call.ring2 call.ring3 (length call.pipe) call.pack

-- what a picked ring has
pub picked_servable : (d : Device) (call : Call) (q : ℕ) → verdict_on d call ≡ Ok tt → pick_in d call ≡ Some q
    → Servable d q (length call.memory) (ring_in call q) (length call.pipe)
unfolding verdict_on
picked_servable d call q sound e =
    servable d (length call.memory) call.ring0 call.ring1 call.ring2 call.ring3 (length call.pipe) call.pack sound q e
