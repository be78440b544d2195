-- A step tells an address only of the load or store that reached outside the window, and it is the first that is not inside.
-- Assumes nothing.
use mathlib.Core.Path.{◌≡◌, refl, subst, ap, ◌∙◌}
use mathlib.Core.List.{List}
use mathlib.Core.Logic.{◌⊎◌, inl, inr, ⊎_elim}
use Prim.Native.Nat.{ℕ, ◌+◌, ◌^◌, ◌≤◌, ◌<◌}
use native.Mathlib.Omega.{arith}
use lib.ListN as ListN
use Rattle.words.specs.Arithmetic.{sum}
use Rattle.words.proofs.Choices.{cond_has}
use Rattle.words.proofs.Order.{lt_or_ge}
use Rattle.std.specs.Prelude.{Result, Ok, Err}
use Rattle.memory.specs.declared.address.Outside.{Outside}
use Rattle.memory.specs.declared.quad.Quad.{Quad}
use Rattle.memory.specs.Address.{first_outside, outside_at, reach_of, if_inside}
use Rattle.memory.specs.Access.{load_of}
use Rattle.memory.specs.Quad.{quad_at, load_quad_of}
use Rattle.memory.proofs.Reach.{reach_cases, first_is_own, first_is_length}
use Rattle.instruction.specs.declared.list.Op.{Op}
use Rattle.instruction.specs.declared.list.Op.TheVariants.{Alu, Unary, AluImm, Lui, Branch, Load, Store, Membar, Wfi, Vector, Vbcast, Vextr, Vld, Vst, Unlisted}
use Rattle.instruction.specs.Decode.{decoded}
use Rattle.instruction.specs.Effect.{loaded_effect, loaded_quad_effect, effect_of}
use Rattle.instruction.proofs.Effects.{of_branch}
use Rattle.pack.specs.declared.kernels.Kernel.{Kernel}
use Rattle.pack.specs.Kernels.{code_word}
use Rattle.kernel.specs.declared.thread.Thread.{Thread}
use Rattle.kernel.specs.declared.step.Stop.TheVariants.{NotListed, OffTheKernel, OutsideTheWindow, OutOfSteps}
use Rattle.kernel.specs.declared.step.Stepped.{Stepped}
use Rattle.kernel.specs.declared.step.Progress.{Progress}
use Rattle.kernel.specs.declared.step.Progress.TheVariants.{Running, Ended, Stopped}
use Rattle.kernel.specs.Registers.{scalar_of}
use Rattle.kernel.specs.Step.{stops, goes_on, ends_thread, lands, branched, after_store, applied, executed, step_of}
use Rattle.kernel.proofs.Steps.{at_the_limit, off_the_end, instruction_done}
use Rattle.demands.specs.Stops.{Accesses, ReachesOut}

-- the access of an instruction whose test gives this address
record Tested (window : List ℕ) (op : Op) (x first : ℕ) : Type 0 where
  address : ℕ
  count : ℕ
  access : Accesses op x address count
  tested : reach_of (ListN.length window) address count ≡ Err (outside_at first)

-- what a progress tells of the instruction's access
abbrev Told : List ℕ → Op → ℕ → Progress → Type 0
Told window op x Running = Unit {0}
Told window op x Ended = Unit {0}
Told window op x (Stopped NotListed) = Unit {0}
Told window op x (Stopped OffTheKernel) = Unit {0}
Told window op x (Stopped (OutsideTheWindow first)) = Tested window op x first
Told window op x (Stopped OutOfSteps) = Unit {0}

module _ (length rd y : ℕ) (vectors : List Quad) (t : Thread) (window : List ℕ) where
  of_go : (op : Op) (x offset : ℕ) → Told window op x (branched length offset t).progress
  unfolding branched stops
  of_go op x offset = cond_has (λ (s : Stepped). Told window op x s.progress) (lands length (sum 32 t.place offset)) (λ e. tt) (λ e. tt)

  of_store : (op : Op) (x address count : ℕ) → Accesses op x address count → (r : Result Unit Outside) → reach_of (ListN.length window) address count ≡ r
      → Told window op x (after_store r t).progress
  unfolding after_store if_inside goes_on stops
  of_store op x address count access (Ok u) e = tt
  of_store op x address count access (Err o) e = record { address = address; count = count; access = access; tested = e }

  of_load : (op : Op) (x address count v : ℕ) → Accesses op x address count → (r : Result Unit Outside) → reach_of (ListN.length window) address count ≡ r
      → Told window op x (applied length rd (loaded_effect (if_inside r (Ok v) Err)) t window).stepped.progress
  unfolding loaded_effect if_inside applied goes_on stops
  of_load op x address count v access (Ok u) e = tt
  of_load op x address count v access (Err o) e = record { address = address; count = count; access = access; tested = e }

  -- each instruction tells of its access alone
  told : (op : Op) (x : ℕ) → Told window op x (applied length rd (effect_of op x y vectors window) t window).stepped.progress
  unfolding effect_of applied goes_on ends_thread stops load_of load_quad_of loaded_quad_effect if_inside
  told (Alu o) x = tt
  told (Unary o) x = tt
  told (AluImm o imm) x = tt
  told (Lui imm) x = tt
  told (Branch c offset) x =
      of_branch (λ e. Told window (Branch c offset) x (applied length rd e t window).stepped.progress) c offset x y (of_go (Branch c offset) x offset) tt
  told (Load width imm) x = of_load (Load width imm) x _ _ _ (refl, refl) _ refl
  told (Store width imm) x = of_store (Store width imm) x _ _ (refl, refl) _ refl
  told Membar x = tt
  told Wfi x = tt
  told (Vector op ty vd v1 v2) x = tt
  told (Vbcast vd) x = tt
  told (Vextr v1) x = tt
  told (Vld vd) x = go _ refl
    where
      go : (r : Result Unit Outside) → reach_of (ListN.length window) x 16 ≡ r
          → Told window (Vld vd) x (applied length rd (loaded_quad_effect vd (if_inside r (Ok (quad_at window x)) Err)) t window).stepped.progress
      go (Ok u) e = tt
      go (Err o) e = record { address = x; count = 16; access = (refl, refl); tested = e }
  told (Vst v2) x = of_store (Vst v2) x _ _ (refl, refl) _ refl
  told Unlisted x = tt

-- the test's address, in the words of the demand
reaches : (pack : List ℕ) (kernel : Kernel) (t : Thread) (window : List ℕ) (first : ℕ) → ListN.length window < 2 ^ 32
    → let i = decoded (code_word pack kernel t.place) in Tested window i.op (scalar_of t.registers i.rs1) first
    → ReachesOut pack kernel t window first
reaches pack kernel t window first small s = ⊎_elim inside outside (reach_cases n a s.count)
  where
    n : ℕ
    n = ListN.length window

    a : ℕ
    a = s.address

    inside : (a + s.count ≤ n) × (reach_of n a s.count ≡ Ok tt) → ReachesOut pack kernel t window first
    inside h = let tested = s.tested in absurd (grind arith)

    outside : (n < a + s.count) × (reach_of n a s.count ≡ Err (outside_at (first_outside n a))) → ReachesOut pack kernel t window first
    outside h =
        let told : outside_at first ≡ outside_at (first_outside n a) = let tested = s.tested in cc in
        let same : first ≡ first_outside n a = ap (λ (o : Outside). o.first) told in
        record {
          address = a;
          count = s.count;
          access = s.access;
          ends = h.0;
          own = λ past. same ∙ first_is_own n a past;
          across = λ within. same ∙ first_is_length n a within small;
        }

pub reaches_out : (limit : ℕ) (pack : List ℕ) (kernel : Kernel) (t : Thread) (window : List ℕ) (first : ℕ) → ListN.length window < 2 ^ 32
    → (step_of limit pack kernel t window).stepped.progress ≡ Stopped (OutsideTheWindow first) → ReachesOut pack kernel t window first
unfolding executed stops
reaches_out limit pack kernel t window first small e = go (lt_or_ge t.steps limit) (lt_or_ge t.place kernel.length)
  where
    go : (t.steps < limit) ⊎ (limit ≤ t.steps) → (t.place < kernel.length) ⊎ (kernel.length ≤ t.place) → ReachesOut pack kernel t window first
    go (inr h) place =
        let stop : Stopped OutOfSteps ≡ Stopped (OutsideTheWindow first) = rw (at_the_limit limit pack kernel t window h) at e in
        absurd (grind arith)
    go (inl h) (inr off) =
        let stop : Stopped OffTheKernel ≡ Stopped (OutsideTheWindow first) = rw (off_the_end limit pack kernel t window h off) at e in
        absurd (grind arith)
    go (inl h) (inl on) =
        let i = decoded (code_word pack kernel t.place) in
        let x = scalar_of t.registers i.rs1 in
        let done = instruction_done limit pack kernel t window h on in
        reaches pack kernel t window first small
        (subst (Told window i.op x) (rw done at e) (told kernel.length i.rd (scalar_of t.registers i.rs2) t.registers.vectors t window i.op x))
