-- The instructions that can have more than one effect: what holds of each holds of what they do.
-- Assumes nothing.
use Prim.Native.Nat.{ℕ}
use Rattle.std.specs.Prelude.{Result, Ok, Err}
use Rattle.memory.specs.declared.address.Outside.{Outside as NotInside}
use Rattle.memory.specs.declared.quad.Quad.{Quad}
use Rattle.instruction.specs.declared.list.Cond.{Cond}
use Rattle.instruction.specs.declared.effect.Effect.{Effect}
use Rattle.instruction.specs.declared.effect.Effect.TheVariants.{Put, PutQuad, Go, Next, Outside}
use Rattle.words.proofs.Choices.{cond_has}
use Rattle.instruction.specs.Meaning.{holds_of}
use Rattle.instruction.specs.Effect.{loaded_effect, loaded_quad_effect, branch_effect}

module _ (P : Effect → Type 0) where
  -- a load puts a scalar or is outside
  pub of_load : (l : Result ℕ NotInside) → ((x : ℕ) → P (Put x)) → ((first : ℕ) → P (Outside first)) → P (loaded_effect l)
  unfolding loaded_effect
  of_load (Ok x) put outside = put x
  of_load (Err o) put outside = outside o.first

  -- a load of four words puts them or is outside
  pub of_quad_load : (vd : ℕ) (l : Result Quad NotInside) → ((q : Quad) → P (PutQuad vd q)) → ((first : ℕ) → P (Outside first)) → P (loaded_quad_effect vd l)
  unfolding loaded_quad_effect
  of_quad_load vd (Ok q) put outside = put q
  of_quad_load vd (Err o) put outside = outside o.first

  -- a branch is taken or not
  pub of_branch : (c : Cond) (offset x y : ℕ) → P (Go offset) → P Next → P (branch_effect c offset x y)
  unfolding branch_effect
  of_branch c offset x y go next = cond_has P (holds_of c x y) {x = Go offset} {y = Next} (λ e. go) (λ e. next)
