-- A run is its steps one after another.
-- Assumes nothing.
use mathlib.Core.Path.{◌≡◌, refl, ◌∙◌}
use mathlib.Core.List.{List}
use Prim.Native.Nat.{ℕ, suc, ◌+◌}
use native.Mathlib.Numerals.{add-one}
use Rattle.memory.specs.After.{after}
use Rattle.memory.proofs.After.{after-keeps}
use Rattle.pack.specs.declared.kernels.Kernel.{Kernel}
use Rattle.kernel.specs.declared.thread.Thread.{Thread}
use Rattle.kernel.specs.declared.step.Progress.{Progress}
use Rattle.kernel.specs.declared.step.Progress.TheVariants.{Running, Ended, Stopped}
use Rattle.kernel.specs.Step.{State, step_of}
use Rattle.kernel.specs.Run.{if_running, step_more, running, steps_of, run_of}
use Rattle.kernel.proofs.Runs.{AtRest}

module _ (limit : ℕ) (pack : List ℕ) (kernel : Kernel) where
  -- one step more of a running thread is a step
  pub more-running : (s : State) → s.stepped.progress ≡ Running
      → step_more limit pack kernel s ≡ step_of limit pack kernel s.stepped.thread s.window
  unfolding step_more if_running
  more-running s e = rw e

  -- and of a thread at rest nothing
  pub more_at_rest : (s : State) → AtRest s.stepped.progress → step_more limit pack kernel s ≡ s
  unfolding step_more
  more_at_rest s rest = rest _ _

  -- what each step of a running thread keeps, n steps keep
  module _ (P : State → Type 0) (step : (t : Thread) (window : List ℕ) → P (running t window) → P (step_of limit pack kernel t window)) where
    more-keeps : (p : Progress) (t : Thread) (window : List ℕ) → P (record { stepped = record { thread = t; progress = p }; window = window })
        → P (step_more limit pack kernel (record { stepped = record { thread = t; progress = p }; window = window }))
    unfolding step_more if_running running
    more-keeps Running t window h = step t window h
    more-keeps Ended t window h = h
    more-keeps (Stopped why) t window h = h

    pub each_step-keeps : (n : ℕ) (t : Thread) (window : List ℕ) → P (running t window) → P (steps_of n limit pack kernel t window)
    unfolding steps_of
    each_step-keeps n t window h =
        after-keeps (λ i. step_more limit pack kernel) P n (running t window)
        (λ i s b. more-keeps s.stepped.progress s.stepped.thread s.window) h

  module _ (t : Thread) (window : List ℕ) where
    -- n + 1 steps are n steps and then one more
    pub one_more : (n : ℕ) → steps_of (suc n) limit pack kernel t window ≡ step_more limit pack kernel (steps_of n limit pack kernel t window)
    unfolding steps_of after
    one_more n = refl

    -- a run is limit + 1 steps, the last of which stops a thread that is still running
    pub run_is_steps : run_of limit pack kernel t window ≡ steps_of (limit + 1) limit pack kernel t window
    unfolding run_of
    run_is_steps = refl

    -- so its last step is taken after the limit's steps
    pub run-last-step : run_of limit pack kernel t window ≡ step_more limit pack kernel (steps_of limit limit pack kernel t window)
    run-last-step = run_is_steps ∙ (rw add-one (one_more limit))
