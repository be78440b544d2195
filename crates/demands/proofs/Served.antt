-- What a turn that serves a ring does to the cursors, and that it takes one command.
-- Assumes nothing.
use mathlib.Core.Bool.{cond}
use mathlib.Core.Path.{◌≡◌, refl, ap}
use Prim.Native.Nat.{ℕ, ◌+◌}
use native.Mathlib.Omega.{arith}
use lib.Dec.{eqb}
use Rattle.std.specs.Prelude.{Ok, Some}
use Rattle.state.specs.declared.device.Device.{Device}
use Rattle.state.specs.Device.{Shaped, ring_of}
use Rattle.device.specs.Answer.{values_of}
use Rattle.device.specs.Turn.{Call, ring_after, finished, report_of, served_of, verdict_on, pick_in}
use Rattle.device.proofs.Untaken.{served-ring, other_ring}
use Rattle.demands.specs.Calls.{head_in, served_with}
use Rattle.demands.specs.Bounded.{served}
use Rattle.device.proofs.Turns.{served_in, picked_servable}
use Rattle.demands.proofs.Turns.{work_in}

module _ (d : Device) (call : Call) (r : ℕ) where
  -- the cursor of a served ring moves past its command
  pub served-cursor : Shaped d → verdict_on d call ≡ Ok tt → pick_in d call ≡ Some r
      → (ring_of (served_in d call r).turned.device r).cursor ≡ (ring_of d r).cursor + (head_in d call r).size
  unfolding served_of finished ring_after
  served-cursor shaped sound pick =
      ap (λ x. x.cursor) (served-ring d r (head_in d call r) (work_in d call r).performed (omega (arith, (picked_servable d call r sound pick).number, shaped.rings)))

  pub served_others : (n : ℕ) → (n ≡ r → ⊥) → (ring_of (served_in d call r).turned.device n).cursor ≡ (ring_of d n).cursor
  unfolding served_of finished
  served_others n other = ap (λ x. x.cursor) (other_ring d r (head_in d call r) (work_in d call r).performed n other)

  -- one command is taken
  pub served_is : (n : ℕ) → served (served_in d call r).turned.answer n ≡ cond (eqb n r) 1 0
  unfolding served_of finished report_of served_with values_of
  served_is n = refl
