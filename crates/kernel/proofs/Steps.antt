-- The cases of a step, and what it adds to the steps taken; when it gives stop 14.
-- Assumes nothing.
use mathlib.Core.Path.{◌≡◌, refl}
use mathlib.Core.Bool.{Bool, true, false, cond, ◌&&◌}
use mathlib.Core.List.{List}
use mathlib.Core.Logic.{◌⊎◌, inl, inr}
use Prim.Native.Nat.{ℕ, ◌+◌, ◌%◌, ◌≤◌, ◌<◌}
use native.Mathlib.Omega.{arith}
use lib.Dec.{eqb, ltb}
use lib.ListN as ListN
use borrow.Author.Tests.{le-leb, lt-leb, eqb-true, ltb-true}
use Rattle.words.specs.Arithmetic.{sum}
use Rattle.words.proofs.Order.{lt_or_ge}
use Rattle.memory.specs.declared.access.Width.{Width}
use Rattle.memory.specs.declared.quad.Quad.{Quad}
use Rattle.std.specs.Prelude.{Result, Ok, Err}
use Rattle.memory.specs.declared.address.Outside.{Outside}
use Rattle.memory.specs.Address.{reach_of, if_inside}
use Rattle.memory.specs.Access.{bytes_of, with_value, store_of}
use Rattle.memory.specs.Quad.{with_quad, store_quad_of}
use Rattle.instruction.specs.declared.effect.Effect.{Effect}
use Rattle.instruction.specs.declared.effect.Effect.TheVariants.{Put, PutQuad, Store, StoreQuad, Go, Next, End, NotListed as WordNotListed, Outside as LoadOutside}
use Rattle.instruction.specs.Decode.{decoded}
use Rattle.pack.specs.declared.kernels.Kernel.{Kernel}
use Rattle.kernel.specs.declared.step.Stop.{Stop}
use Rattle.kernel.specs.declared.step.Stop.TheVariants.{NotListed, OffTheKernel, OutsideTheWindow, OutOfSteps}
use Rattle.kernel.specs.declared.thread.Thread.{Thread}
use Rattle.kernel.specs.declared.step.Progress.{Progress}
use Rattle.kernel.specs.declared.step.Progress.TheVariants.{Running, Ended, Stopped}
use Rattle.pack.specs.Kernels.{code_word}
use Rattle.kernel.specs.Thread.{written, written_vector, moved_to, advanced}
use Rattle.kernel.specs.Step.{State, stops, stopped_as, goes_on, ends_thread, lands, branched, after_store, applied, executed, step_of}

-- a step that leaves the thread running, and WFI, is taken below the limit and adds one to the steps;
-- a stop adds none, and is 14 only at the limit
abbrev pub Counted : ℕ → ℕ → Progress → ℕ → Type 0
Counted limit before Running now = (now ≡ before + 1) × (before < limit)
Counted limit before Ended now = (now ≡ before + 1) × (before < limit)
Counted limit before (Stopped why) now = (now ≡ before) × (why ≡ OutOfSteps → limit ≤ before)

-- the cases of a step in a kernel of `length` bytes: P of each
pub record StepCases (P : State → Type 0) (limit length : ℕ) (t : Thread) (window : List ℕ) : Type 0 where
  -- the next instruction, perhaps with a register written
  pub next : t.steps < limit → (t' : Thread) → t'.place ≡ t.place → t'.steps ≡ t.steps → P (record { stepped = goes_on t'; window = window })
  -- the next instruction after a store
  pub stored : t.steps < limit → (width : Width) (a x : ℕ) → P (record { stepped = goes_on t; window = store_of window width a x })
  pub stored_quad : t.steps < limit → (a : ℕ) (q : Quad) → P (record { stepped = goes_on t; window = store_quad_of window a q })
  -- a taken branch
  pub branched : t.steps < limit → (place : ℕ) → place % 4 ≡ 0 → place < length
      → P (record { stepped = record { thread = moved_to t place; progress = Running }; window = window })
  -- the thread's end
  pub ended : t.steps < limit → P (record { stepped = ends_thread t; window = window })
  -- a stop, which is 14 only after the limit's steps
  pub stopped : (why : Stop) → (why ≡ OutOfSteps → limit ≤ t.steps) → P (stopped_as why t window)

unlisted_is_not_14 : NotListed ≡ OutOfSteps → ⊥
unlisted_is_not_14 e = let z : ◌≡◌ {A = ℕ} 0 1 = cc in omega arith

outside_is_not_14 : (first : ℕ) → OutsideTheWindow first ≡ OutOfSteps → ⊥
outside_is_not_14 first e = let z : ◌≡◌ {A = ℕ} 0 1 = cc in omega arith

off_is_not_14 : OffTheKernel ≡ OutOfSteps → ⊥
off_is_not_14 e = let z : ◌≡◌ {A = ℕ} 0 1 = cc in omega arith

module _ (P : State → Type 0) (t : Thread) (window : List ℕ) where
  -- a store is done inside the window or stops the thread
  of_store : (reach : Result Unit Outside) (stored : List ℕ)
      → P (record { stepped = goes_on t; window = if_inside reach stored (λ o. window) }) → ((first : ℕ) → P (stopped_as (OutsideTheWindow first) t window))
      → P (record { stepped = after_store reach t; window = if_inside reach stored (λ o. window) })
  unfolding after_store if_inside
  of_store (Ok u) stored inside outside = inside
  of_store (Err o) stored inside outside = outside o.first

  -- a taken branch lands or stops the thread
  of_branch : (length place : ℕ) (multiple inside : Bool) → eqb (place % 4) 0 ≡ multiple → ltb place length ≡ inside
      → (place % 4 ≡ 0 → place < length → P (record { stepped = record { thread = moved_to t place; progress = Running }; window = window }))
      → P (stopped_as OffTheKernel t window)
      → P (record { stepped = cond (multiple && inside) (record { thread = moved_to t place; progress = Running }) (stops OffTheKernel t); window = window })
  of_branch length place true true m i lands off = lands (eqb-true _ _ m) (ltb-true _ _ i)
  of_branch length place true false m i lands off = off
  of_branch length place false inside m i lands off = off

  module _ (limit length rd : ℕ) (below : t.steps < limit) (cases : StepCases P limit length t window) where
    of_effect : (effect : Effect) → P (applied length rd effect t window)
    unfolding applied written written_vector store_of store_quad_of branched lands
    of_effect (Put x) = cases.next below (written t rd x) refl refl
    of_effect (PutQuad vd q) = cases.next below (written_vector t (vd % 32) q) refl refl
    of_effect (Store width a x) =
        of_store (reach_of (ListN.length window) a (bytes_of width)) (with_value window width a x) (cases.stored below width a x)
        (λ first. cases.stopped (OutsideTheWindow first) (λ e. absurd (outside_is_not_14 first e)))
    of_effect (StoreQuad a q) =
        of_store (reach_of (ListN.length window) a 16) (with_quad window a q) (cases.stored_quad below a q)
        (λ first. cases.stopped (OutsideTheWindow first) (λ e. absurd (outside_is_not_14 first e)))
    of_effect (Go offset) =
        of_branch length (sum 32 t.place offset) _ _ refl refl (cases.branched below (sum 32 t.place offset))
        (cases.stopped OffTheKernel (λ e. absurd (off_is_not_14 e)))
    of_effect Next = cases.next below t refl refl
    of_effect End = cases.ended below
    of_effect WordNotListed = cases.stopped NotListed (λ e. absurd (unlisted_is_not_14 e))
    of_effect (LoadOutside first) = cases.stopped (OutsideTheWindow first) (λ e. absurd (outside_is_not_14 first e))

module _ (limit : ℕ) (pack : List ℕ) (kernel : Kernel) (t : Thread) (window : List ℕ) where
  -- a thread that already took the limit's steps stops with 14
  pub at_the_limit : limit ≤ t.steps → step_of limit pack kernel t window ≡ stopped_as OutOfSteps t window
  unfolding step_of
  at_the_limit h = rw (le-leb limit t.steps h)

  -- one that took fewer and ran off the kernel's end stops with 12
  pub off_the_end : t.steps < limit → kernel.length ≤ t.place → step_of limit pack kernel t window ≡ stopped_as OffTheKernel t window
  unfolding step_of
  off_the_end h off = simp (lt-leb limit t.steps h, le-leb kernel.length t.place off)

  -- any other does the instruction at its place
  pub instruction_done : t.steps < limit → t.place < kernel.length
      → step_of limit pack kernel t window ≡ executed kernel.length (decoded (code_word pack kernel t.place)) t window
  unfolding step_of
  instruction_done h on = simp (lt-leb limit t.steps h, lt-leb kernel.length t.place on)

  -- what holds in each case of a step holds of it
  pub step_cases : (P : State → Type 0) → StepCases P limit kernel.length t window → P (step_of limit pack kernel t window)
  unfolding executed
  step_cases P cases = go (lt_or_ge t.steps limit) (lt_or_ge t.place kernel.length)
    where
      go : (t.steps < limit) ⊎ (limit ≤ t.steps) → (t.place < kernel.length) ⊎ (kernel.length ≤ t.place)
          → P (step_of limit pack kernel t window)
      go (inr h) place = rw (at_the_limit h) (cases.stopped OutOfSteps (λ e. h))
      go (inl h) (inr off) = rw (off_the_end h off) (cases.stopped OffTheKernel (λ e. absurd (off_is_not_14 e)))
      go (inl h) (inl on) =
          rw (instruction_done h on) (of_effect P t window limit kernel.length _ h cases _)

  -- each step counts
  pub step_counts : Counted limit t.steps (step_of limit pack kernel t window).stepped.progress (step_of limit pack kernel t window).stepped.thread.steps
  unfolding goes_on ends_thread stops advanced moved_to
  step_counts = step_cases (λ s. Counted limit t.steps s.stepped.progress s.stepped.thread.steps) (record {
    next = λ h t' place steps. (rw steps, h);
    stored = λ h width a x. (refl, h);
    stored_quad = λ h a q. (refl, h);
    branched = λ h place multiple inside. (refl, h);
    ended = λ h. (refl, h);
    stopped = λ why only. (refl, only);
  })
