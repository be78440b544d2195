-- Which commands tell where a thread stopped, and which stops tell an address.
-- Assumes nothing.
use Rattle.std.proofs.Common.{Option, Some}
use mathlib.Core.Path.{◌≡◌, refl}
use mathlib.Core.Bool.{Bool, true}
use mathlib.Core.List.{List}
use mathlib.Core.Logic.{⊎_elim}
use Prim.Native.Nat.{ℕ, ◌≤◌}
use native.Mathlib.Omega.{arith}
use lib.ListN.{length}
use Rattle.kernel.specs.declared.step.Stop.{Stop}
use Rattle.kernel.specs.declared.step.Stop.TheVariants.{NotListed, OffTheKernel, OutsideTheWindow, OutOfSteps}
use Rattle.std.specs.Prelude.{Result, Ok, Err}
use Rattle.kernel.specs.declared.dispatch.ThreadStop.{ThreadStop}
use Rattle.kernel.specs.Site.{no_site, address_of, site_of}
use Rattle.command.specs.declared.header.Command.{Command}
use Rattle.command.specs.declared.frame.Frame.{Frame}
use Rattle.command.specs.declared.opcode.Opcode.TheVariants.{Dispatch1d}
use Rattle.command.specs.Outcome.{fault_number, outcome_number, is_done}
use Rattle.work.specs.Work.{Left, leaves, stop_outcome, ran_outcome, ran_as, after_dispatch}
use Rattle.work.specs.Perform.{fault_of, performed_of}
use Rattle.work.proofs.OutcomeRanges.{stop_range, faults_range}
use Rattle.work.proofs.Works.{work_has}
use Rattle.work.proofs.Performs.{performed_has}

-- but for 13 a stop tells no address
pub stop-no_address : (why : Stop) → (fault_number (stop_outcome why) ≡ 13 → ⊥) → address_of why ≡ 0
unfolding stop_outcome
stop-no_address NotListed not = refl
stop-no_address OffTheKernel not = refl
stop-no_address (OutsideTheWindow first) not = absurd (not refl)
stop-no_address OutOfSteps not = refl

-- a dispatch that is done tells of no stop
ran-no_stop : (r : Result Unit ThreadStop) → outcome_number (ran_outcome r) ≤ 10 → site_of r ≡ no_site
unfolding ran_outcome site_of
ran-no_stop (Ok u) h = refl
ran-no_stop (Err stop) h = absurd (omega (arith, h, (stop_range stop.why).0))

module _ (c : Command) (full : Bool) (ring window : List ℕ) (frame : Option Frame) (pack pipe : List ℕ) (limit : ℕ) where
  abbrev left : Left
  left = performed_of c full ring window frame pack pipe limit

  -- outcomes 0 to 10 tell of no stop
  abbrev NoStop : Left → Type 0
  NoStop l = outcome_number l.performed.outcome ≤ 10 → l.performed.site ≡ no_site

  pub performed-no_stop : NoStop left
  unfolding leaves after_dispatch ran_as
  performed-no_stop =
      performed_has c full ring window frame pack pipe limit NoStop
      (λ fine.
      work_has c ring window frame pack pipe limit NoStop
      (λ e h. refl)
      (λ e h. refl)
      (λ e h. refl)
      (λ e h. refl)
      (λ e h. ran-no_stop _ h)
      (λ e h. refl)
      (λ e h. refl)
      (λ h. refl))
      (λ faulty h. refl)

  -- 11 to 14 are the outcomes of a DISPATCH_1D with no fault alone
  abbrev OnlyDispatch : Left → Type 0
  OnlyDispatch l = 11 ≤ outcome_number l.performed.outcome → (is_done (fault_of c full (length window) frame pack) ≡ true) × (c.opcode ≡ Some Dispatch1d)

  pub performed-stops : OnlyDispatch left
  unfolding leaves
  performed-stops =
      performed_has c full ring window frame pack pipe limit OnlyDispatch
      (λ fine.
      work_has c ring window frame pack pipe limit OnlyDispatch
      (λ e h. absurd (omega (arith, h)))
      (λ e h. absurd (omega (arith, h)))
      (λ e h. absurd (omega (arith, h)))
      (λ e h. absurd (omega (arith, h)))
      (λ e h. (fine, e))
      (λ e h. absurd (omega (arith, h)))
      (λ e h. absurd (omega (arith, h)))
      (λ h. absurd (omega (arith, h))))
      (λ faulty h. absurd (⊎_elim (λ z. omega (arith, z, h)) (λ r. omega (arith, r.1, h)) (faults_range c full (length window) frame pack)))
