-- What an instruction does, from the values of its operands.
use Rattle.std.specs.Prelude.{ℕ, ◌%◌, cond, List, Result, Ok, Err}
use Rattle.words.specs.Arithmetic.{sum}
use Rattle.memory.specs.Access.{load_of}
use Rattle.memory.specs.Quad.{quad_word, load_quad_of}
use Rattle.memory.specs.declared.address.Outside.{Outside as NotInside}
use Rattle.memory.specs.declared.quad.Quad.{Quad}
use Rattle.instruction.specs.declared.list.Cond.{Cond}
use Rattle.instruction.specs.declared.list.Op.{Op}
use Rattle.instruction.specs.declared.list.Op.TheVariants.{Alu, Unary, AluImm, Lui, Branch, Load, Store, Membar, Wfi, Vector, Vbcast, Vextr, Vld, Vst, Unlisted}
use Rattle.instruction.specs.declared.effect.Effect.{Effect}
use Rattle.instruction.specs.declared.effect.Effect.TheVariants.{Put, PutQuad, Store as StoreAt, StoreQuad, Go, Next, End, NotListed, Outside}
use Rattle.instruction.specs.Meaning.{alu_of, unary_of, holds_of}
use Rattle.instruction.specs.Vectors.{quad_of, lanes_of_quads, broadcast}

-- what was read goes to scalar rd; of a load not wholly in the window the first address that is not inside is handed on
unfoldable pub loaded_effect : Result ℕ NotInside → Effect
loaded_effect (Ok x) = Put x
loaded_effect (Err o) = Outside o.first

-- the same for 16 bytes to a vector register
unfoldable pub loaded_quad_effect : ℕ → Result Quad NotInside → Effect
loaded_quad_effect vd (Ok q) = PutQuad vd q
loaded_quad_effect vd (Err o) = Outside o.first

-- a branch is taken if its comparison holds
unfoldable pub branch_effect : Cond → ℕ → ℕ → ℕ → Effect
branch_effect c offset x y = cond (holds_of c x y) (Go offset) Next

-- x is rs1's value and y is rs2's; addresses wrap to 32 bits, accesses do not
unfoldable pub effect_of : Op → ℕ → ℕ → List Quad → List ℕ → Effect
effect_of (Alu o) x y vectors window = Put (alu_of o x y)
effect_of (Unary o) x y vectors window = Put (unary_of o x)
effect_of (AluImm o imm) x y vectors window = Put (alu_of o x imm)
effect_of (Lui imm) x y vectors window = Put imm
effect_of (Branch c offset) x y vectors window = branch_effect c offset x y
effect_of (Load width imm) x y vectors window = loaded_effect (load_of window width (sum 32 x imm))
effect_of (Store width imm) x y vectors window = StoreAt width (sum 32 x imm) y
effect_of Membar x y vectors window = Next
effect_of Wfi x y vectors window = End
effect_of (Vector op ty vd v1 v2) x y vectors window =
    PutQuad vd (lanes_of_quads op ty (quad_of vectors (v1 % 32)) (quad_of vectors (v2 % 32)))
effect_of (Vbcast vd) x y vectors window = PutQuad vd (broadcast x)
effect_of (Vextr v1) x y vectors window = Put (quad_word (quad_of vectors (v1 % 32)) 0)
effect_of (Vld vd) x y vectors window = loaded_quad_effect vd (load_quad_of window x)
effect_of (Vst v2) x y vectors window = StoreQuad x (quad_of vectors (v2 % 32))
effect_of Unlisted x y vectors window = NotListed
