-- A command is its work if it has no fault, and else the fault alone.
-- Assumes nothing.
use Rattle.std.proofs.Common.{Option}
use mathlib.Core.Path.{◌≡◌}
use mathlib.Core.Bool.{Bool, true, false}
use mathlib.Core.List.{List}
use Prim.Native.Nat.{ℕ}
use lib.ListN.{length}
use Rattle.command.specs.declared.header.Command.{Command}
use Rattle.command.specs.declared.frame.Frame.{Frame}
use Rattle.command.specs.Outcome.{Outcome, is_done}
use Rattle.work.specs.Work.{Left, leaves, work_of}
use Rattle.work.specs.Perform.{fault_of, guarded, performed_of}
use Rattle.words.proofs.Choices.{cond_has}

module _ (c : Command) (full : Bool) (ring window : List ℕ) (frame : Option Frame) (pack pipe : List ℕ) (limit : ℕ) where
  abbrev pub fault_here : Outcome
  fault_here = fault_of c full (length window) frame pack

  pub performed_work : is_done fault_here ≡ true → performed_of c full ring window frame pack pipe limit ≡ work_of c ring window frame pack pipe limit
  unfolding performed_of guarded
  performed_work e = rw e

  pub performed_fault : is_done fault_here ≡ false → performed_of c full ring window frame pack pipe limit ≡ leaves fault_here frame window pipe
  unfolding performed_of guarded
  performed_fault e = rw e

  -- what the work has, and the fault alone, the command has
  pub performed_has : (P : Left → Type 0) → (is_done fault_here ≡ true → P (work_of c ring window frame pack pipe limit))
      → (is_done fault_here ≡ false → P (leaves fault_here frame window pipe)) → P (performed_of c full ring window frame pack pipe limit)
  unfolding performed_of guarded
  performed_has P work fault = cond_has P _ work fault
