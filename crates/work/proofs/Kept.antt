-- What every command keeps: the lengths of the window and the pipe, and that a frame passes its test.
-- Assumes nothing.
use Rattle.std.proofs.Common.{Option, Some}
use mathlib.Core.Path.{◌≡◌, refl}
use mathlib.Core.Bool.{Bool, true}
use mathlib.Core.List.{List}
use Prim.Native.Nat.{ℕ}
use lib.ListN.{length}
use Rattle.memory.proofs.Lengths.{filled-length, copied-length, blitted-length, transferred-length}
use Rattle.kernel.proofs.Windows.{dispatch-length}
use Rattle.command.specs.declared.header.Command.{Command}
use Rattle.command.specs.declared.frame.Frame.{Frame}
use Rattle.command.specs.declared.opcode.Opcode.TheVariants.{SetFb}
use Rattle.command.specs.Outcome.{is_done}
use Rattle.command.specs.Table.{row_of}
use Rattle.command.specs.Frame.{held_by, frame_fault, held_fault}
use Rattle.work.specs.Shape.{is_rectangle}
use Rattle.work.specs.Checks.{misaligned, unframed, outside, unfit_frame, unfit_dispatch, check_of}
use Rattle.work.specs.Work.{Left, leaves, ran_as, dispatched_by, after_dispatch}
use Rattle.work.specs.Perform.{performed_of}
use Rattle.work.proofs.Faultless.{check_done}
use Rattle.work.proofs.Works.{work_has}
use Rattle.work.proofs.Performs.{performed_has}

-- SET_FB is checked as its frame is
pub set_fb_check : (c : Command) (length : ℕ) (frame : Option Frame) (pack : List ℕ) → c.opcode ≡ Some SetFb
    → check_of c length frame pack ≡ frame_fault (held_by c) length
unfolding check_of misaligned unframed outside unfit_frame unfit_dispatch is_rectangle row_of frame_fault
set_fb_check c length frame pack e = rw e

module _ (c : Command) (full : Bool) (ring window : List ℕ) (frame : Option Frame) (pack pipe : List ℕ) (limit : ℕ) where
  abbrev pub left : Left
  left = performed_of c full ring window frame pack pipe limit

  -- as long as they were
  abbrev pub Long : Left → Type 0
  Long l = (length l.window ≡ length window) × (length l.pipe ≡ length pipe)

  -- a frame that SET_FB would not refuse
  abbrev pub Held : Left → Type 0
  Held l = is_done (held_fault l.performed.frame (length window)) ≡ true

  pub performed_lengths : Long left
  unfolding leaves after_dispatch dispatched_by
  performed_lengths =
      performed_has c full ring window frame pack pipe limit Long
      (λ fine.
      work_has c ring window frame pack pipe limit Long
      (λ e. (transferred-length window _ _ _ _, refl))
      (λ e. (refl, transferred-length pipe _ _ _ _))
      (λ e. (filled-length window _ _ _ _ _, refl))
      (λ e. (blitted-length window _ _ _ _ _, refl))
      (λ e. (dispatch-length limit pack window _ _ _, refl))
      (λ e. (copied-length window _ _ _, refl))
      (λ e. (refl, refl))
      (refl, refl))
      (λ faulty. (refl, refl))

  pub performed-frame : is_done (held_fault frame (length window)) ≡ true → Held left
  unfolding leaves after_dispatch ran_as held_fault
  performed-frame held =
      performed_has c full ring window frame pack pipe limit Held
      (λ fine.
      work_has c ring window frame pack pipe limit Held
      (λ e. held)
      (λ e. held)
      (λ e. held)
      (λ e. held)
      (λ e. held)
      (λ e. held)
      (λ e. rw (set_fb_check c (length window) frame pack e) at (check_done c full (length window) frame pack fine))
      held)
      (λ faulty. held)
