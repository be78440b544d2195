-- What a word stands for: the instruction table, row by row in its order.
use Rattle.std.specs.Prelude.{ℕ, cond, eqb}
use Rattle.words.specs.Fields.{opcode_of, rd_of, funct3_of, rs1_of, rs2_of, funct7_of, funct6_of, bit25_of, imm_i, imm_s, imm_b, imm_u}
use Rattle.instruction.specs.declared.list.Op.{Op}
use Rattle.instruction.specs.declared.list.Op.TheVariants.{Lui, Unlisted}
use Rattle.instruction.specs.declared.list.Instr.{Instr}
use Rattle.instruction.specs.Rows.{scalar_row, immediate_row, branch_row, load_row, store_row, system_row, vector_row, transfer_row, vld_row, vst_row}

-- an unused field must be 0
unfoldable pub unused_is0 : ℕ → Op → Op
unused_is0 unused op = cond (eqb unused 0) op Unlisted

-- bit 25 clear
unfoldable pub vector_of : ℕ → Op
vector_of w = unused_is0 (bit25_of w) (vector_row (funct6_of w) (funct3_of w) (rd_of w) (rs1_of w) (rs2_of w))

-- rs2 and funct7 are unused
unfoldable pub transfer_of : ℕ → Op
transfer_of w = unused_is0 (funct7_of w) (unused_is0 (rs2_of w) (transfer_row (funct3_of w) (rd_of w) (rs1_of w)))

-- rs2 and funct7 are unused
unfoldable pub vld_of : ℕ → Op
vld_of w = unused_is0 (funct7_of w) (unused_is0 (rs2_of w) (vld_row (funct3_of w) (rd_of w)))

-- rd and funct7 are unused
unfoldable pub vst_of : ℕ → Op
vst_of w = unused_is0 (funct7_of w) (unused_is0 (rd_of w) (vst_row (funct3_of w) (rs2_of w)))

-- the table by opcode; every other word is not in the list
unfoldable pub op_of : ℕ → Op
op_of w =
    cond (eqb (opcode_of w) 0b0001011) (scalar_row (funct7_of w) (funct3_of w) (rs2_of w))
    (cond (eqb (opcode_of w) 0b0010111) (immediate_row (funct3_of w) (funct7_of w) (rs2_of w) (imm_i w))
    (cond (eqb (opcode_of w) 0b0110111) (Lui (imm_u w))
    (cond (eqb (opcode_of w) 0b0001110) (branch_row (funct3_of w) (imm_b w))
    (cond (eqb (opcode_of w) 0b0001100) (load_row (funct3_of w) (imm_i w))
    (cond (eqb (opcode_of w) 0b0001101) (store_row (funct3_of w) (imm_s w))
    (cond (eqb (opcode_of w) 0b0001111) (system_row w)
    (cond (eqb (opcode_of w) 0b0101111) (vector_of w)
    (cond (eqb (opcode_of w) 0b0010000) (transfer_of w)
    (cond (eqb (opcode_of w) 0b0010001) (vld_of w)
    (cond (eqb (opcode_of w) 0b0010010) (vst_of w) Unlisted))))))))))

-- the operation and the three register fields
unfoldable pub decoded : ℕ → Instr
decoded w = record { op = op_of w; rd = rd_of w; rs1 = rs1_of w; rs2 = rs2_of w }
