-- The fields of an instruction word and the immediates of the RISC-V shapes.
use Rattle.std.specs.Prelude.{ℕ, ◌+◌, ◌*◌, ◌/◌, ◌%◌, ◌^◌}
use Rattle.words.specs.Signed.{extended}

-- n bits of a word, from bit k up
abbrev pub field : ℕ → ℕ → ℕ → ℕ
field k n w = w / 2 ^ k % 2 ^ n

-- bits 6..0
abbrev pub opcode_of : ℕ → ℕ
opcode_of w = field 0 7 w

-- bits 11..7
abbrev pub rd_of : ℕ → ℕ
rd_of w = field 7 5 w

-- bits 14..12
abbrev pub funct3_of : ℕ → ℕ
funct3_of w = field 12 3 w

-- bits 19..15
abbrev pub rs1_of : ℕ → ℕ
rs1_of w = field 15 5 w

-- bits 24..20
abbrev pub rs2_of : ℕ → ℕ
rs2_of w = field 20 5 w

-- bits 31..25
abbrev pub funct7_of : ℕ → ℕ
funct7_of w = field 25 7 w

-- bits 31..26
abbrev pub funct6_of : ℕ → ℕ
funct6_of w = field 26 6 w

-- bit 25
abbrev pub bit25_of : ℕ → ℕ
bit25_of w = field 25 1 w

-- imm[11:0] in bits 31..20, sign-extended
abbrev pub imm_i : ℕ → ℕ
imm_i w = extended 12 (field 20 12 w)

-- imm[11:5] in bits 31..25 and imm[4:0] in bits 11..7, sign-extended
abbrev pub imm_s : ℕ → ℕ
imm_s w = extended 12 (field 25 7 w * 2 ^ 5 + field 7 5 w)

-- imm[12] in bit 31, imm[11] in bit 7, imm[10:5] in bits 30..25, imm[4:1] in bits 11..8, imm[0] is 0; sign-extended
abbrev pub imm_b : ℕ → ℕ
imm_b w = extended 13 (field 31 1 w * 2 ^ 12 + field 7 1 w * 2 ^ 11 + field 25 6 w * 2 ^ 5 + field 8 4 w * 2)

-- imm[31:12] in bits 31..12, the low 12 bits 0
abbrev pub imm_u : ℕ → ℕ
imm_u w = field 12 20 w * 2 ^ 12
