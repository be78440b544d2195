-- The rows of the instruction table, each on the fields that it names.
use Rattle.std.specs.Prelude.{ℕ, ◌+◌, ◌*◌, ◌^◌, cond, eqb, Option, Some, None}
use Rattle.words.specs.declared.lanes.LaneOp.{LaneOp}
use Rattle.words.specs.declared.lanes.LaneOp.TheVariants.{Add as VAdd, Sub as VSub, Xor as VXor, And as VAnd, Or as VOr, Mul as VMul}
use Rattle.words.specs.declared.lanes.LaneType.{LaneType}
use Rattle.words.specs.declared.lanes.LaneType.TheVariants.{I32, I16, I8}
use Rattle.memory.specs.declared.access.Width.{Width}
use Rattle.memory.specs.declared.access.Width.TheVariants.{Byte, Half, Word}
use Rattle.instruction.specs.declared.list.Op.{Op}
use Rattle.instruction.specs.declared.list.Op.TheVariants.{Alu, Unary, AluImm, Branch, Load, Store, Membar, Wfi, Vector, Vbcast, Vextr, Vld, Vst, Unlisted}
use Rattle.instruction.specs.declared.list.AluOp.TheVariants.{Add, Sub, Mul, Shl, Lsr, Asr, Min, Max, Xor, Or, And}
use Rattle.instruction.specs.declared.list.UnaryOp.TheVariants.{Abs, Clz, Ctz}
use Rattle.instruction.specs.declared.list.Cond.{Cond}
use Rattle.instruction.specs.declared.list.Cond.TheVariants.{Eq, Ne, Lt, Ge, Ltu, Geu}

-- ADD 0, ABS or SHL 1, MIN 2, MAX 3, XOR 4, LSR 5, OR 6, AND 7; it is ABS exactly if the rs2 field is 0
unfoldable pub plain_row : ℕ → ℕ → Op
plain_row f3 rs2 =
    cond (eqb f3 0) (Alu Add)
    (cond (eqb f3 1) (cond (eqb rs2 0) (Unary Abs) (Alu Shl))
    (cond (eqb f3 2) (Alu Min)
    (cond (eqb f3 3) (Alu Max)
    (cond (eqb f3 4) (Alu Xor)
    (cond (eqb f3 5) (Alu Lsr)
    (cond (eqb f3 6) (Alu Or)
    (cond (eqb f3 7) (Alu And) Unlisted)))))))

-- SUB 0, ASR 5
unfoldable pub other_row : ℕ → Op
other_row f3 = cond (eqb f3 0) (Alu Sub) (cond (eqb f3 5) (Alu Asr) Unlisted)

-- MUL 0
unfoldable pub product_row : ℕ → Op
product_row f3 = cond (eqb f3 0) (Alu Mul) Unlisted

-- CLZ 0, CTZ 1
unfoldable pub count_row : ℕ → Op
count_row f3 = cond (eqb f3 0) (Unary Clz) (cond (eqb f3 1) (Unary Ctz) Unlisted)

-- by funct7: 0, 32, 1, 3
unfoldable pub scalar_row : ℕ → ℕ → ℕ → Op
scalar_row f7 f3 rs2 =
    cond (eqb f7 0) (plain_row f3 rs2)
    (cond (eqb f7 32) (other_row f3)
    (cond (eqb f7 1) (product_row f3)
    (cond (eqb f7 3) (count_row f3) Unlisted)))

-- ADDI 0, XORI 4, ORI 6, ANDI 7; SHL 1 and LSR 5 with imm[11:5] 0; ASR 5 with 32
unfoldable pub immediate_row : ℕ → ℕ → ℕ → ℕ → Op
immediate_row f3 high shamt imm =
    cond (eqb f3 0) (AluImm Add imm)
    (cond (eqb f3 4) (AluImm Xor imm)
    (cond (eqb f3 6) (AluImm Or imm)
    (cond (eqb f3 7) (AluImm And imm)
    (cond (eqb f3 1) (cond (eqb high 0) (AluImm Shl shamt) Unlisted)
    (cond (eqb f3 5) (cond (eqb high 0) (AluImm Lsr shamt) (cond (eqb high 32) (AluImm Asr shamt) Unlisted)) Unlisted)))))

-- the operation of what the fields name; where they name nothing the word is not in the list
unfoldable pub listed : {A : Type 0} → (A → Op) → Option A → Op
listed op None = Unlisted
listed op (Some x) = op x

-- BEQ 0, BNE 1, BLT 4, BGE 5, BLTU 6, BGEU 7
unfoldable pub cond_by : ℕ → Option Cond
cond_by f3 =
    cond (eqb f3 0) (Some Eq)
    (cond (eqb f3 1) (Some Ne)
    (cond (eqb f3 4) (Some Lt)
    (cond (eqb f3 5) (Some Ge)
    (cond (eqb f3 6) (Some Ltu)
    (cond (eqb f3 7) (Some Geu) None)))))

-- a branch, by funct3
unfoldable pub branch_row : ℕ → ℕ → Op
branch_row f3 offset = listed (λ c. Branch c offset) (cond_by f3)

-- LB and SB 0, LH and SH 1, LW and SW 2
unfoldable pub width_by : ℕ → Option Width
width_by f3 = cond (eqb f3 0) (Some Byte) (cond (eqb f3 1) (Some Half) (cond (eqb f3 2) (Some Word) None))

-- a load, by funct3
unfoldable pub load_row : ℕ → ℕ → Op
load_row f3 imm = listed (λ width. Load width imm) (width_by f3)

-- a store, by funct3
unfoldable pub store_row : ℕ → ℕ → Op
store_row f3 imm = listed (λ width. Store width imm) (width_by f3)

-- MEMBAR 0, WFI 7, all other bits 0
unfoldable pub system_row : ℕ → Op
system_row w =
    cond (eqb w (0b0001111 + 0 * 2 ^ 12)) Membar
    (cond (eqb w (0b0001111 + 7 * 2 ^ 12)) Wfi Unlisted)

-- funct3: I32 0, I16 1, I8 2
unfoldable pub lane_type_by : ℕ → Option LaneType
lane_type_by f3 = cond (eqb f3 0) (Some I32) (cond (eqb f3 1) (Some I16) (cond (eqb f3 2) (Some I8) None))

-- each operation has every type
unfoldable pub lane_row : LaneOp → ℕ → ℕ → ℕ → ℕ → Op
lane_row op f3 vd v1 v2 = listed (λ ty. Vector op ty vd v1 v2) (lane_type_by f3)

-- funct6: VADD 0, VSUB 1, VXOR 9, VAND 10, VOR 11, VMUL 12
unfoldable pub vector_row : ℕ → ℕ → ℕ → ℕ → ℕ → Op
vector_row f6 f3 vd v1 v2 =
    cond (eqb f6 0) (lane_row VAdd f3 vd v1 v2)
    (cond (eqb f6 1) (lane_row VSub f3 vd v1 v2)
    (cond (eqb f6 9) (lane_row VXor f3 vd v1 v2)
    (cond (eqb f6 10) (lane_row VAnd f3 vd v1 v2)
    (cond (eqb f6 11) (lane_row VOr f3 vd v1 v2)
    (cond (eqb f6 12) (lane_row VMul f3 vd v1 v2) Unlisted)))))

-- VBCAST 0 (scalar rs1 to four words), VEXTR 2 (word 0 to scalar rd)
unfoldable pub transfer_row : ℕ → ℕ → ℕ → Op
transfer_row f3 rd rs1 = cond (eqb f3 0) (Vbcast rd) (cond (eqb f3 2) (Vextr rs1) Unlisted)

-- funct3 0
unfoldable pub vld_row : ℕ → ℕ → Op
vld_row f3 rd = cond (eqb f3 0) (Vld rd) Unlisted

-- funct3 0, the data from rs2
unfoldable pub vst_row : ℕ → ℕ → Op
vst_row f3 rs2 = cond (eqb f3 0) (Vst rs2) Unlisted
