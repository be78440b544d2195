-- What the checks say of a command's bytes.
-- Assumes nothing.
use Rattle.std.proofs.Common.{Option, Some, None}
use mathlib.Core.Path.{◌≡◌}
use mathlib.Core.Bool.{Bool, true, false, not, ◌&&◌, ◌||◌, true≢false}
use Prim.Native.Nat.{ℕ, ◌+◌, ◌*◌, ◌≤◌}
use native.Mathlib.Omega.{arith}
use lib.Dec.{eqb, ltb}
use borrow.Author.Tests.{ltb-false, ne_eqb}
use Rattle.memory.specs.Rectangle.{rectangle_end, RowsApart}
use Rattle.command.specs.declared.header.Command.{Command}
use Rattle.command.specs.declared.frame.Frame.{Frame}
use Rattle.command.specs.declared.opcode.Opcode.TheVariants.{WriteMem, ReadMem, FillRect, Blit, CopyBuffer, SetFb}
use Rattle.command.specs.Opcode.{is_opcode}
use Rattle.command.specs.Table.{row_of}
use Rattle.command.specs.Frame.{held_by, stride_of, frame_outside}
use Rattle.work.specs.Shape.{is_rectangle, width_of, height_of, too_narrow, end_of}
use Rattle.work.specs.Checks.{unframed, outside}
use Rattle.words.proofs.Choices.{neither_left, neither_right, not_both}

module _ (c : Command) (frame : Option Frame) (address : ℕ) where
  pub transfer_end : is_rectangle c.opcode ≡ false → end_of c frame address ≡ address + 4 * c.len
  unfolding end_of
  transfer_end e = rw e

  pub rectangle_ends : is_rectangle c.opcode ≡ true → end_of c frame address ≡ rectangle_end address (stride_of frame) (width_of c) (height_of c)
  unfolding end_of
  rectangle_ends e = rw e

module _ (c : Command) (n : ℕ) (frame : Option Frame) (in_window : outside c n frame ≡ false) where
  first : Bool
  first = (row_of c.opcode).address0 && ltb n (end_of c frame c.arg0)

  second : Bool
  second = (row_of c.opcode).address1 && ltb n (end_of c frame c.arg1)

  third : Bool
  third = is_opcode c.opcode SetFb && frame_outside (held_by c) n

  pub inside0 : (row_of c.opcode).address0 ≡ true → end_of c frame c.arg0 ≤ n
  unfolding outside first second third
  inside0 address = ltb-false _ _ (not_both _ _ address (neither_left first second (neither_left (first || second) third in_window)))

  pub inside1 : (row_of c.opcode).address1 ≡ true → end_of c frame c.arg1 ≤ n
  unfolding outside first second third
  inside1 address = ltb-false _ _ (not_both _ _ address (neither_right first second (neither_left (first || second) third in_window)))

  pub write_inside : c.opcode ≡ Some WriteMem → c.arg0 + 4 * c.len ≤ n
  unfolding row_of is_rectangle
  write_inside e = rw (transfer_end c frame c.arg0 (rw e)) at (inside0 (rw e))

  pub read_inside : c.opcode ≡ Some ReadMem → c.arg0 + 4 * c.len ≤ n
  unfolding row_of is_rectangle
  read_inside e = rw (transfer_end c frame c.arg0 (rw e)) at (inside0 (rw e))

  pub copy_inside : c.opcode ≡ Some CopyBuffer → (c.arg0 + 4 * c.len ≤ n) × (c.arg1 + 4 * c.len ≤ n)
  unfolding row_of is_rectangle
  copy_inside e = (
    rw (transfer_end c frame c.arg0 (rw e)) at (inside0 (rw e)),
    rw (transfer_end c frame c.arg1 (rw e)) at (inside1 (rw e)),
  )

  pub fill_inside : c.opcode ≡ Some FillRect → rectangle_end c.arg0 (stride_of frame) (width_of c) (height_of c) ≤ n
  unfolding row_of is_rectangle
  fill_inside e = rw (rectangle_ends c frame c.arg0 (rw e)) at (inside0 (rw e))

  pub blit_inside : c.opcode ≡ Some Blit
      → (rectangle_end c.arg0 (stride_of frame) (width_of c) (height_of c) ≤ n) × (rectangle_end c.arg1 (stride_of frame) (width_of c) (height_of c) ≤ n)
  unfolding row_of is_rectangle
  blit_inside e = (
    rw (rectangle_ends c frame c.arg0 (rw e)) at (inside0 (rw e)),
    rw (rectangle_ends c frame c.arg1 (rw e)) at (inside1 (rw e)),
  )

-- no row of a rectangle reaches into the next
rows_apart : (frame : Option Frame) (width height : ℕ) → too_narrow frame width height ≡ false → RowsApart (stride_of frame) width height
unfolding too_narrow RowsApart
rows_apart None width height wide hw hh = absurd (true≢false wide)
rows_apart (Some frame) width height wide hw hh =
    let w : eqb width 0 ≡ false = ne_eqb width 0 (λ e. omega arith) in
    let h : eqb height 0 ≡ false = ne_eqb height 0 (λ e. omega arith) in
    ltb-false frame.stride (4 * width) (not_both (not (eqb width 0) && not (eqb height 0)) (ltb frame.stride (4 * width)) (rw (w, h)) wide)

pub blit_rows_apart : (c : Command) (frame : Option Frame) → unframed c frame ≡ false → c.opcode ≡ Some Blit → RowsApart (stride_of frame) (width_of c) (height_of c)
unfolding unframed is_rectangle
blit_rows_apart c frame framed e = rows_apart frame (width_of c) (height_of c) (not_both (is_rectangle c.opcode) _ (rw e) framed)
