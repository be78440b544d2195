-- Outcomes 5 to 10.
use Rattle.std.specs.Prelude.{ℕ, Bool, ◌&&◌, ◌||◌, cond, List, ltb, leb, Option, Err}
use Rattle.pack.specs.Kernels.{kernel_count}
use Rattle.command.specs.declared.outcome.Fault.TheVariants.{SlotFull, Misaligned, NoFrame, OutsideTheWindow, BadFrame, BadDispatch}
use Rattle.command.specs.declared.header.Command.{Command}
use Rattle.command.specs.declared.frame.Frame.{Frame}
use Rattle.command.specs.declared.opcode.Opcode.TheVariants.{Dispatch1d, SetFb}
use Rattle.command.specs.Opcode.{is_opcode}
use Rattle.command.specs.Outcome.{Outcome, done}
use Rattle.command.specs.Flags.{emit_bit}
use Rattle.command.specs.Table.{row_of}
use Rattle.command.specs.Frame.{held_by, not_a_multiple, frame_misaligned, frame_outside, frame_unfit}
use Rattle.work.specs.Shape.{is_rectangle, width_of, height_of, too_narrow, end_of}

-- 5: emit set and the slot is full
unfoldable pub slot_fault : Command → Bool → Outcome
slot_fault c full = cond (emit_bit c.flags && full) (Err SlotFull) done

-- 6: an address (01, 02, 10, 11, 23), or SET_FB's base or stride, not a multiple of 4
unfoldable pub misaligned : Command → Bool
misaligned c =
    (row_of c.opcode).address0 && not_a_multiple c.arg0
    || (row_of c.opcode).address1 && not_a_multiple c.arg1
    || is_opcode c.opcode SetFb && frame_misaligned (held_by c)

-- 7: FILL or BLIT with no frame; or, width and height nonzero, 4·width above the stride
unfoldable pub unframed : Command → Option Frame → Bool
unframed c frame = is_rectangle c.opcode && too_narrow frame (width_of c) (height_of c)

-- 8: bytes outside the window: end above its length; or SET_FB base not below it
unfoldable pub outside : Command → ℕ → Option Frame → Bool
outside c length frame =
    (row_of c.opcode).address0 && ltb length (end_of c frame c.arg0)
    || (row_of c.opcode).address1 && ltb length (end_of c frame c.arg1)
    || is_opcode c.opcode SetFb && frame_outside (held_by c) length

-- 9: SET_FB with stride outside 4 to 65,536, or format not 0
unfoldable pub unfit_frame : Command → Bool
unfit_frame c = is_opcode c.opcode SetFb && frame_unfit (held_by c)

-- outside 1 to 64
unfoldable pub out_of_range : ℕ → Bool
out_of_range count = ltb count 1 || ltb 64 count

-- 10: groups or threads outside 1 to 64, or no such kernel
unfoldable pub unfit_dispatch : Command → List ℕ → Bool
unfit_dispatch c pack =
    is_opcode c.opcode Dispatch1d && (out_of_range c.arg0 || out_of_range c.arg1 || leb (kernel_count pack) c.arg2)

-- the smallest of 6 to 10 that applies
unfoldable pub check_of : Command → ℕ → Option Frame → List ℕ → Outcome
check_of c length frame pack =
    cond (misaligned c) (Err Misaligned)
    (cond (unframed c frame) (Err NoFrame)
    (cond (outside c length frame) (Err OutsideTheWindow)
    (cond (unfit_frame c) (Err BadFrame)
    (cond (unfit_dispatch c pack) (Err BadDispatch)
    done))))
