-- The work of the commands, on the ring's window, the pipe and the frame.
use Rattle.std.specs.Prelude.{ℕ, ◌*◌, ◌≡◌, List, Result, Ok, Err, Option, Some, None}
use Rattle.memory.specs.Rectangle.{filled}
use Rattle.memory.specs.Copy.{copied, blitted}
use Rattle.memory.specs.Transfer.{transferred}
use Rattle.kernel.specs.declared.step.Stop.{Stop}
use Rattle.kernel.specs.declared.step.Stop.TheVariants.{NotListed as Unlisted, OffTheKernel as OffIt, OutsideTheWindow as OffTheWindow, OutOfSteps as NoStepsLeft}
use Rattle.kernel.specs.declared.dispatch.ThreadStop.{ThreadStop}
use Rattle.kernel.specs.Dispatch.{Dispatched, dispatch_of}
use Rattle.kernel.specs.Site.{no_site, site_of}
use Rattle.command.specs.declared.outcome.Fault.{Fault}
use Rattle.command.specs.declared.outcome.Fault.TheVariants.{NotListed, OffTheKernel, AccessOutside, OutOfSteps}
use Rattle.command.specs.declared.header.Command.{Command}
use Rattle.command.specs.declared.frame.Frame.{Frame}
use Rattle.work.specs.declared.work.Performed.{Performed}
use Rattle.command.specs.declared.opcode.Opcode.{Opcode}
use Rattle.command.specs.declared.opcode.Opcode.TheVariants.{WriteMem, ReadMem, FillRect, Blit, Dispatch1d, Barrier, CopyBuffer, SetFb}
use Rattle.command.specs.Outcome.{Outcome, done}
use Rattle.command.specs.Frame.{held_by, stride_of}
use Rattle.work.specs.Shape.{width_of, height_of}

-- what a command answers, and the window and pipe it leaves
pub record Left : Type 0 where
  pub performed : Performed
  pub window : List ℕ
  pub pipe : List ℕ

-- what a function returns and leaves in the window and the pipe is this
pub record Shows (r : Performed) (w p : List ℕ) (l : Left) : Type 0 where
  pub answer : r ≡ l.performed
  pub window : w ≡ l.window
  pub pipe : p ≡ l.pipe

-- this outcome, with this frame after it, where no thread stopped
abbrev pub without_stop : Outcome → Option Frame → Performed
without_stop o frame = record { outcome = o; frame = frame; site = no_site }

-- the same, with this window and pipe after it
unfoldable pub leaves : Outcome → Option Frame → List ℕ → List ℕ → Left
leaves o frame window pipe = record { performed = without_stop o frame; window = window; pipe = pipe }

-- 11 to 14: why a thread stopped
unfoldable pub stop_outcome : Stop → Fault
stop_outcome Unlisted = NotListed
stop_outcome OffIt = OffTheKernel
stop_outcome (OffTheWindow first) = AccessOutside
stop_outcome NoStepsLeft = OutOfSteps

-- a dispatch is done, or has its stop's outcome
unfoldable pub ran_outcome : Result Unit ThreadStop → Outcome
ran_outcome (Ok u) = done
ran_outcome (Err stop) = Err (stop_outcome stop.why)

-- what a dispatch answers: its outcome, the frame as it was, and where a thread stopped, if one did
unfoldable pub ran_as : Option Frame → Result Unit ThreadStop → Performed
ran_as frame ran = record { outcome = ran_outcome ran; frame = frame; site = site_of ran }

-- DISPATCH_1D: arg0 groups, arg1 threads in a group, arg2 kernel
unfoldable pub dispatched_by : Command → ℕ → List ℕ → List ℕ → Dispatched
dispatched_by c limit pack window = dispatch_of limit pack c.arg2 c.arg0 c.arg1 window

-- after a dispatch: what it answers, and the window with the stores made before a stop; it changes no frame or pipe
unfoldable pub after_dispatch : Option Frame → List ℕ → Dispatched → Left
after_dispatch frame pipe d = record { performed = ran_as frame d.ran; window = d.window; pipe = pipe }

-- the table of commands: WRITE_MEM payload to arg0; READ_MEM len words from arg0 to the pipe's front;
-- FILL_RECT arg0 dst, arg1 size, arg2 color; BLIT arg0 dst, arg1 src, arg2 size;
-- DISPATCH_1D arg0 groups, arg1 threads in a group, arg2 kernel; COPY_BUFFER arg0 dst, arg1 src, len words;
-- SET_FB arg0 base, arg1 stride, arg2 format; BARRIER, or no opcode of the table, nothing
unfoldable pub work_by : Option Opcode → Command → List ℕ → List ℕ → Option Frame → List ℕ → List ℕ → ℕ → Left
work_by (Some WriteMem) c ring window frame pack pipe limit = leaves done frame (transferred ring c.payload c.arg0 (4 * c.len) window) pipe
work_by (Some ReadMem) c ring window frame pack pipe limit = leaves done frame window (transferred window c.arg0 0 (4 * c.len) pipe)
work_by (Some FillRect) c ring window frame pack pipe limit =
    leaves done frame (filled c.arg0 (stride_of frame) (width_of c) (height_of c) c.arg2 window) pipe
work_by (Some Blit) c ring window frame pack pipe limit =
    leaves done frame (blitted c.arg0 c.arg1 (stride_of frame) (width_of c) (height_of c) window) pipe
work_by (Some Dispatch1d) c ring window frame pack pipe limit = after_dispatch frame pipe (dispatched_by c limit pack window)
work_by (Some CopyBuffer) c ring window frame pack pipe limit = leaves done frame (copied c.arg0 c.arg1 c.len window) pipe
work_by (Some SetFb) c ring window frame pack pipe limit = leaves done (Some (held_by c)) window pipe
work_by (Some Barrier) c ring window frame pack pipe limit = leaves done frame window pipe
work_by None c ring window frame pack pipe limit = leaves done frame window pipe

-- the work of a command is that of its opcode
unfoldable pub work_of : Command → List ℕ → List ℕ → Option Frame → List ℕ → List ℕ → ℕ → Left
work_of c = work_by c.opcode c
