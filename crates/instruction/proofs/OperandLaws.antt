-- What the table of operands says: a scalar that is not read does not matter; a scalar is put exactly where the table says that
-- one is written, unless a load is outside; the thread ends exactly where it says so.
-- Assumes nothing.
use mathlib.Core.Path.{◌≡◌, refl}
use mathlib.Core.Bool.{true, false}
use mathlib.Core.List.{List}
use Prim.Native.Nat.{ℕ}
use Rattle.words.specs.Arithmetic.{sum}
use Rattle.memory.specs.declared.quad.Quad.{Quad}
use Rattle.memory.specs.Access.{load_of}
use Rattle.memory.specs.Quad.{load_quad_of}
use Rattle.instruction.specs.declared.list.Op.{Op}
use Rattle.instruction.specs.declared.list.Op.TheVariants.{Alu, Unary, AluImm, Lui, Branch, Load, Store, Membar, Wfi, Vector, Vbcast, Vextr, Vld, Vst, Unlisted}
use Rattle.instruction.specs.declared.effect.Effect.{Effect}
use Rattle.instruction.specs.declared.effect.Effect.TheVariants.{Put, PutQuad, Store as StoreAt, StoreQuad, Go, Next, End, NotListed, Outside}
use Rattle.instruction.specs.Effect.{effect_of}
use Rattle.instruction.specs.Operands.{Operands, operands_of}
use Rattle.instruction.proofs.Effects.{of_load, of_quad_load, of_branch}

-- a row does not end the thread and writes no scalar
abbrev Neither : Operands → Type 0
Neither row = (row.writes ≡ false) × (row.ends_thread ≡ false)

-- what a row says of an effect; a load that is outside writes nothing, whatever it would have written
abbrev pub Tells : Operands → Effect → Type 0
Tells row (Put x) = (row.writes ≡ true) × (row.ends_thread ≡ false)
Tells row (PutQuad vd q) = Neither row
Tells row (StoreAt width a x) = Neither row
Tells row (StoreQuad a q) = Neither row
Tells row (Go offset) = Neither row
Tells row Next = Neither row
Tells row End = (row.writes ≡ false) × (row.ends_thread ≡ true)
Tells row NotListed = Neither row
Tells row (Outside first) = row.ends_thread ≡ false

module _ (vectors : List Quad) (window : List ℕ) where
  -- values that are equal where they are read have the same effect
  pub unread : (op : Op) (x x' y y' : ℕ) → ((operands_of op).reads1 ≡ true → x ≡ x') → ((operands_of op).reads2 ≡ true → y ≡ y')
      → effect_of op x y vectors window ≡ effect_of op x' y' vectors window
  unfolding operands_of effect_of
  unread (Alu o) x x' y y' rs1 rs2 = rw (rs1 refl, rs2 refl)
  unread (Unary o) x x' y y' rs1 rs2 = rw (rs1 refl)
  unread (AluImm o imm) x x' y y' rs1 rs2 = rw (rs1 refl)
  unread (Lui imm) x x' y y' rs1 rs2 = refl
  unread (Branch c offset) x x' y y' rs1 rs2 = rw (rs1 refl, rs2 refl)
  unread (Load width imm) x x' y y' rs1 rs2 = rw (rs1 refl)
  unread (Store width imm) x x' y y' rs1 rs2 = rw (rs1 refl, rs2 refl)
  unread Membar x x' y y' rs1 rs2 = refl
  unread Wfi x x' y y' rs1 rs2 = refl
  unread (Vector op ty vd v1 v2) x x' y y' rs1 rs2 = refl
  unread (Vbcast vd) x x' y y' rs1 rs2 = rw (rs1 refl)
  unread (Vextr v1) x x' y y' rs1 rs2 = refl
  unread (Vld vd) x x' y y' rs1 rs2 = rw (rs1 refl)
  unread (Vst v2) x x' y y' rs1 rs2 = rw (rs1 refl)
  unread Unlisted x x' y y' rs1 rs2 = refl

  -- each row tells of the instruction's effect
  pub told : (op : Op) (x y : ℕ) → Tells (operands_of op) (effect_of op x y vectors window)
  unfolding operands_of effect_of
  told (Alu o) x y = (refl, refl)
  told (Unary o) x y = (refl, refl)
  told (AluImm o imm) x y = (refl, refl)
  told (Lui imm) x y = (refl, refl)
  told (Branch c offset) x y = of_branch (Tells (operands_of (Branch c offset))) c offset x y (refl, refl) (refl, refl)
  told (Load width imm) x y = of_load (Tells (operands_of (Load width imm))) (load_of window width (sum 32 x imm)) (λ v. (refl, refl)) (λ first. refl)
  told (Store width imm) x y = (refl, refl)
  told Membar x y = (refl, refl)
  told Wfi x y = (refl, refl)
  told (Vector op ty vd v1 v2) x y = (refl, refl)
  told (Vbcast vd) x y = (refl, refl)
  told (Vextr v1) x y = (refl, refl)
  told (Vld vd) x y = of_quad_load (Tells (operands_of (Vld vd))) vd (load_quad_of window x) (λ q. (refl, refl)) (λ first. refl)
  told (Vst v2) x y = (refl, refl)
  told Unlisted x y = (refl, refl)
