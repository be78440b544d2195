-- The rectangles of FILL and BLIT, and where a command's bytes end.
use Rattle.std.specs.Prelude.{ℕ, ◌+◌, ◌*◌, ◌/◌, ◌%◌, ◌^◌, Bool, true, not, ◌&&◌, ◌||◌, cond, eqb, ltb, Option, Some, None}
use Rattle.memory.specs.Rectangle.{rectangle_end}
use Rattle.command.specs.declared.header.Command.{Command}
use Rattle.command.specs.declared.frame.Frame.{Frame}
use Rattle.command.specs.declared.opcode.Opcode.{Opcode}
use Rattle.command.specs.declared.opcode.Opcode.TheVariants.{FillRect, Blit}
use Rattle.command.specs.Opcode.{is_opcode}
use Rattle.command.specs.Frame.{stride_of}

-- FILL and BLIT work on a rectangle
unfoldable pub is_rectangle : Option Opcode → Bool
is_rectangle opcode = is_opcode opcode FillRect || is_opcode opcode Blit

-- FILL has its size in arg1, BLIT in arg2
unfoldable pub size_of : Command → ℕ
size_of c = cond (is_opcode c.opcode FillRect) c.arg1 c.arg2

-- a size has width in bits 15..0 and height in 31..16
unfoldable pub width_of : Command → ℕ
width_of c = size_of c % 2 ^ 16

unfoldable pub height_of : Command → ℕ
height_of c = size_of c / 2 ^ 16 % 2 ^ 16

-- no frame; or, width and height nonzero, 4·width above the stride
unfoldable pub too_narrow : Option Frame → ℕ → ℕ → Bool
too_narrow None width height = true
too_narrow (Some frame) width height = not (eqb width 0) && not (eqb height 0) && ltb frame.stride (4 * width)

-- where the bytes at an address end, not wrapped: of a rectangle, or of len words
unfoldable pub end_of : Command → Option Frame → ℕ → ℕ
end_of c frame address =
    cond (is_rectangle c.opcode)
    (rectangle_end address (stride_of frame) (width_of c) (height_of c))
    (address + 4 * c.len)
