-- Which scalar fields an instruction reads and writes, and whether it ends the thread.
use Rattle.std.specs.Prelude.{Bool, true, false}
use Rattle.instruction.specs.declared.list.Op.{Op}
use Rattle.instruction.specs.declared.list.Op.TheVariants.{Alu, Unary, AluImm, Lui, Branch, Load, Store, Membar, Wfi, Vector, Vbcast, Vextr, Vld, Vst, Unlisted}

-- a row of the table: is scalar rs1 read, is rs2 read, is rd written, does the thread end
pub record Operands : Type 0 where
  pub reads1 : Bool
  pub reads2 : Bool
  pub writes : Bool
  pub ends_thread : Bool

-- the table
unfoldable pub operands_of : Op → Operands
operands_of (Alu o) = record { reads1 = true; reads2 = true; writes = true; ends_thread = false }
operands_of (Unary o) = record { reads1 = true; reads2 = false; writes = true; ends_thread = false }
operands_of (AluImm o imm) = record { reads1 = true; reads2 = false; writes = true; ends_thread = false }
operands_of (Lui imm) = record { reads1 = false; reads2 = false; writes = true; ends_thread = false }
operands_of (Branch c offset) = record { reads1 = true; reads2 = true; writes = false; ends_thread = false }
operands_of (Load width imm) = record { reads1 = true; reads2 = false; writes = true; ends_thread = false }
operands_of (Store width imm) = record { reads1 = true; reads2 = true; writes = false; ends_thread = false }
operands_of Membar = record { reads1 = false; reads2 = false; writes = false; ends_thread = false }
operands_of Wfi = record { reads1 = false; reads2 = false; writes = false; ends_thread = true }
operands_of (Vector op ty vd v1 v2) = record { reads1 = false; reads2 = false; writes = false; ends_thread = false }
operands_of (Vbcast vd) = record { reads1 = true; reads2 = false; writes = false; ends_thread = false }
operands_of (Vextr v1) = record { reads1 = false; reads2 = false; writes = true; ends_thread = false }
operands_of (Vld vd) = record { reads1 = true; reads2 = false; writes = false; ends_thread = false }
operands_of (Vst v2) = record { reads1 = true; reads2 = false; writes = false; ends_thread = false }
operands_of Unlisted = record { reads1 = false; reads2 = false; writes = false; ends_thread = false }
