-- Opcodes and their numbers.
-- Assumes nothing.
use Rattle.std.proofs.Common.{◌≡◌, true, Option, Some, None, refl, sym, ap, ◌∙◌}
use borrow.Author.Tests.{eqb-true}
use Rattle.command.specs.declared.opcode.Opcode.{Opcode}
use Rattle.command.specs.declared.opcode.Opcode.TheVariants.{WriteMem, ReadMem, FillRect, Blit, Dispatch1d, Barrier, CopyBuffer, SetFb}
use Rattle.command.specs.Opcode.{opcode_number, opcode_of, is_opcode}

-- the number of an opcode is its own
pub numbered : (o : Opcode) → opcode_of (opcode_number o) ≡ Some o
unfolding opcode_of
numbered WriteMem = refl
numbered ReadMem = refl
numbered FillRect = refl
numbered Blit = refl
numbered Dispatch1d = refl
numbered Barrier = refl
numbered CopyBuffer = refl
numbered SetFb = refl

pub opcode_is : (given : Option Opcode) (o : Opcode) → is_opcode given o ≡ true → given ≡ Some o
opcode_is None o e = cc
opcode_is (Some own) o e = sym (numbered own) ∙ ap opcode_of (eqb-true _ _ e) ∙ numbered o
