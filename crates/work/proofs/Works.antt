-- The work of each command.
-- Assumes nothing.
use Rattle.std.proofs.Common.{Option, Some, None}
use mathlib.Core.Path.{◌≡◌, refl}
use mathlib.Core.List.{List}
use Prim.Native.Nat.{ℕ, ◌*◌}
use Rattle.memory.specs.Rectangle.{filled}
use Rattle.memory.specs.Copy.{copied, blitted}
use Rattle.memory.specs.Transfer.{transferred}
use Rattle.command.specs.declared.header.Command.{Command}
use Rattle.command.specs.declared.frame.Frame.{Frame}
use Rattle.command.specs.Outcome.{done}
use Rattle.command.specs.declared.opcode.Opcode.{Opcode}
use Rattle.command.specs.declared.opcode.Opcode.TheVariants.{WriteMem, Barrier, ReadMem, FillRect, Blit, Dispatch1d, CopyBuffer, SetFb}
use Rattle.command.specs.Frame.{held_by, stride_of}
use Rattle.work.specs.Shape.{width_of, height_of}
use Rattle.work.specs.Work.{Left, leaves, after_dispatch, dispatched_by, work_by, work_of}

module _ (c : Command) (ring window : List ℕ) (frame : Option Frame) (pack pipe : List ℕ) (limit : ℕ) where
  abbrev pub here : Left
  here = work_of c ring window frame pack pipe limit

  pub work_dispatch : c.opcode ≡ Some Dispatch1d → here ≡ after_dispatch frame pipe (dispatched_by c limit pack window)
  unfolding work_of work_by
  work_dispatch e = rw e

  pub work_set : c.opcode ≡ Some SetFb → here ≡ leaves done (Some (held_by c)) window pipe
  unfolding work_of work_by
  work_set e = rw e

  -- what each command's work has, the work has
  pub work_has : (P : Left → Type 0)
      → (c.opcode ≡ Some WriteMem → P (leaves done frame (transferred ring c.payload c.arg0 (4 * c.len) window) pipe))
      → (c.opcode ≡ Some ReadMem → P (leaves done frame window (transferred window c.arg0 0 (4 * c.len) pipe)))
      → (c.opcode ≡ Some FillRect → P (leaves done frame (filled c.arg0 (stride_of frame) (width_of c) (height_of c) c.arg2 window) pipe))
      → (c.opcode ≡ Some Blit → P (leaves done frame (blitted c.arg0 c.arg1 (stride_of frame) (width_of c) (height_of c) window) pipe))
      → (c.opcode ≡ Some Dispatch1d → P (after_dispatch frame pipe (dispatched_by c limit pack window)))
      → (c.opcode ≡ Some CopyBuffer → P (leaves done frame (copied c.arg0 c.arg1 c.len window) pipe))
      → (c.opcode ≡ Some SetFb → P (leaves done (Some (held_by c)) window pipe))
      → P (leaves done frame window pipe)
      → P here
  unfolding work_of work_by
  work_has P write read fill blits runs copies sets nothing = go c.opcode refl
    where
      go : (o : Option Opcode) → c.opcode ≡ o → P (work_by o c ring window frame pack pipe limit)
      go (Some WriteMem) e = write e
      go (Some ReadMem) e = read e
      go (Some FillRect) e = fill e
      go (Some Blit) e = blits e
      go (Some Dispatch1d) e = runs e
      go (Some CopyBuffer) e = copies e
      go (Some SetFb) e = sets e
      go (Some Barrier) e = nothing
      go None e = nothing
