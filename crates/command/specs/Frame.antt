-- A ring's frame, and the test that SET_FB makes of one.
use Rattle.std.specs.Prelude.{ℕ, ◌%◌, Bool, not, ◌||◌, cond, eqb, ltb, leb, Option, Some, None, Err}
use Rattle.command.specs.declared.outcome.Fault.TheVariants.{Misaligned, OutsideTheWindow, BadFrame}
use Rattle.command.specs.declared.frame.Frame.{Frame}
use Rattle.command.specs.declared.header.Command.{Command}
use Rattle.command.specs.Outcome.{Outcome, done}

-- SET_FB: arg0 base, arg1 stride, arg2 format
unfoldable pub held_by : Command → Frame
held_by c = record { base = c.arg0; stride = c.arg1; format = c.arg2 }

-- not a multiple of 4
abbrev pub not_a_multiple : ℕ → Bool
not_a_multiple x = not (eqb (x % 4) 0)

-- 6: base or stride not a multiple of 4
unfoldable pub frame_misaligned : Frame → Bool
frame_misaligned frame = not_a_multiple frame.base || not_a_multiple frame.stride

-- 8: base not below the window's length
abbrev pub frame_outside : Frame → ℕ → Bool
frame_outside frame length = leb length frame.base

-- 9: stride outside 4 to 65,536, or format not 0
unfoldable pub frame_unfit : Frame → Bool
frame_unfit frame = ltb frame.stride 4 || ltb 65536 frame.stride || not (eqb frame.format 0)

-- the smallest that applies
unfoldable pub frame_fault : Frame → ℕ → Outcome
frame_fault frame length =
    cond (frame_misaligned frame) (Err Misaligned)
    (cond (frame_outside frame length) (Err OutsideTheWindow)
    (cond (frame_unfit frame) (Err BadFrame)
    done))

-- the test of the frame that a ring has; no frame passes it
unfoldable pub held_fault : Option Frame → ℕ → Outcome
held_fault None length = done
held_fault (Some frame) length = frame_fault frame length

-- a frame's stride; 0 of no frame
abbrev pub stride_of : Option Frame → ℕ
stride_of None = 0
stride_of (Some frame) = frame.stride
