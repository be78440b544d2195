-- The step limit: stop 14 is given exactly to a thread that is still running after the limit's steps.
-- Assumes nothing.
use mathlib.Core.Path.{◌≡◌, refl, ◌∙◌}
use mathlib.Core.List.{List}
use mathlib.Core.Logic.{◌↔◌}
use Prim.Native.Nat.{ℕ, zero, suc, ◌+◌, ◌≤◌, ◌<◌}
use native.Mathlib.Omega.{arith}
use Rattle.memory.specs.After.{after}
use Rattle.instruction.specs.declared.list.Op.TheVariants.{Wfi}
use Rattle.instruction.specs.Decode.{op_of, decoded}
use Rattle.instruction.specs.Effect.{effect_of}
use Rattle.pack.specs.declared.kernels.Kernel.{Kernel}
use Rattle.kernel.specs.declared.step.Stop.TheVariants.{OutOfSteps}
use Rattle.kernel.specs.declared.thread.Thread.{Thread}
use Rattle.kernel.specs.declared.step.Progress.{Progress}
use Rattle.kernel.specs.declared.step.Progress.TheVariants.{Running, Ended, Stopped}
use Rattle.pack.specs.Kernels.{code_word}
use Rattle.kernel.specs.Step.{State, stops, stopped_as, ends_thread, applied, executed, step_of}
use Rattle.kernel.specs.Run.{if_running, step_more, running, steps_of, run_of}
use Rattle.kernel.proofs.Runs.{one-step_more, run_rests, ended_rests, stopped_rests}
use Rattle.kernel.proofs.StepByStep.{more-running, run-last-step}
use Rattle.kernel.proofs.Steps.{Counted, step_counts, at_the_limit, instruction_done}

-- a thread that is running after n steps took n, and no more than the limit; it is stopped with 14 only past the limit
abbrev Took : ℕ → ℕ → Progress → ℕ → Type 0
Took limit n Running steps = (steps ≡ n) × (n ≤ limit)
Took limit n Ended steps = steps ≤ limit
Took limit n (Stopped why) steps = (steps ≤ limit) × (why ≡ OutOfSteps → limit < n)

abbrev TookState : ℕ → ℕ → State → Type 0
TookState limit n s = Took limit n s.stepped.progress s.stepped.thread.steps

-- a step keeps that
counted_took : (limit n : ℕ) (p : Progress) (before now : ℕ) → before ≡ n → n ≤ limit → Counted limit before p now → Took limit (suc n) p now
counted_took limit n Running before now took below counted = omega arith
counted_took limit n Ended before now took below counted = omega arith
counted_took limit n (Stopped why) before now took below counted = (omega arith, λ e. omega (arith, counted.1 e))

module _ (limit : ℕ) (pack : List ℕ) (kernel : Kernel) where
  more_took : (n : ℕ) (p : Progress) (t : Thread) (window : List ℕ) → Took limit n p t.steps
      → TookState limit (suc n) (step_more limit pack kernel (record { stepped = record { thread = t; progress = p }; window = window }))
  unfolding step_more if_running
  more_took n Running t window h =
      let r = (step_of limit pack kernel t window).stepped in
      counted_took limit n r.progress t.steps r.thread.steps h.0 h.1 (step_counts limit pack kernel t window)
  more_took n Ended t window h = h
  more_took n (Stopped why) t window h = (h.0, λ e. omega (arith, h.1 e))

  module _ (t : Thread) (window : List ℕ) where
    -- the state after n steps, and that at the run's end
    abbrev state : ℕ → State
    state n = steps_of n limit pack kernel t window

    abbrev end : State
    end = run_of limit pack kernel t window

    -- a thread that ends within the limit's steps, the last of them too, ends so
    pub ended_run : (n : ℕ) → n ≤ limit → (state n).stepped.progress ≡ Ended → end ≡ state n
    ended_run n h e = run_rests limit pack kernel t window n (omega arith) (ended_rests e)

    module _ (fresh : t.steps ≡ 0) where
      state_took : (n : ℕ) → TookState limit n (state n)
      unfolding steps_of after running
      state_took zero = (fresh, omega arith)
      state_took (suc n) = more_took n _ _ _ (state_took n)

      -- a thread that is running after n steps took n
      pub running_took : (n : ℕ) → (state n).stepped.progress ≡ Running → (state n).stepped.thread.steps ≡ n
      running_took n e = (rw e at (state_took n)).0

      -- and that is no more than the limit
      pub running_within : (n : ℕ) → (state n).stepped.progress ≡ Running → n ≤ limit
      running_within n e = (rw e at (state_took n)).1

      -- no thread is running at the end of its run
      pub run_not_running : end.stepped.progress ≡ Running → ⊥
      unfolding run_of
      run_not_running e = omega (arith, (rw e at (state_took (limit + 1))).1)

      -- no thread is stopped with 14 within the limit's steps
      pub not_before_the_limit : (n : ℕ) → n ≤ limit → (state n).stepped.progress ≡ Stopped OutOfSteps → ⊥
      not_before_the_limit n h e = omega (arith, (rw e at (state_took n)).1 refl)

      -- a thread still running after the limit's steps is stopped with 14, and all is as those steps left it
      pub running_at_the_limit : (state limit).stepped.progress ≡ Running
          → end ≡ stopped_as OutOfSteps (state limit).stepped.thread (state limit).window
      running_at_the_limit e =
          run-last-step limit pack kernel t window
          ∙ more-running limit pack kernel (state limit) e
          ∙ at_the_limit limit pack kernel _ _ (omega (arith, running_took limit e))

      -- a run gives 14 exactly if the thread is still running after the limit's steps
      pub out_of_steps : (end.stepped.progress ≡ Stopped OutOfSteps) ↔ ((state limit).stepped.progress ≡ Running)
      unfolding stops
      out_of_steps = (there (state limit).stepped.progress refl, λ e. rw (running_at_the_limit e))
        where
          there : (p : Progress) → (state limit).stepped.progress ≡ p → end.stepped.progress ≡ Stopped OutOfSteps
              → (state limit).stepped.progress ≡ Running
          there Running now e = now
          there Ended now e =
              let same = ended_run limit (omega arith) now in
              cc
          there (Stopped why) now e =
              let same = run_rests limit pack kernel t window limit (omega arith) (stopped_rests now) in
              absurd (not_before_the_limit limit (omega arith) (cc))

      -- a WFI that is step number limit ends the thread, and 14 is not given
      pub wfi_at_the_limit : (n : ℕ) (t' : Thread) (window' : List ℕ) → n + 1 ≡ limit → state n ≡ running t' window'
          → t'.place < kernel.length → op_of (code_word pack kernel t'.place) ≡ Wfi
          → end ≡ record { stepped = ends_thread t'; window = window' }
      unfolding running executed decoded effect_of applied ends_thread
      wfi_at_the_limit n t' window' h e on wfi =
          let took : t'.steps ≡ n = rw e at (running_took n (rw e)) in
          let here = one-step_more limit pack kernel t window n t' window' e in
          let wfi-done = instruction_done limit pack kernel t' window' (omega arith) on in
          let done : state (n + 1) ≡ record { stepped = ends_thread t'; window = window' } = here ∙ wfi-done ∙ (rw wfi) in
          ended_run (n + 1) (omega arith) (rw done) ∙ done
