-- A stop changes nothing: the thread and the window stay as the steps before it left them. Which step it was that stopped it.
-- Assumes nothing.
use mathlib.Core.Path.{◌≡◌, refl, subst, ap, ◌∙◌}
use mathlib.Core.List.{List}
use Prim.Native.Nat.{ℕ, zero, suc, ◌+◌, ◌≤◌}
use native.Mathlib.Omega.{arith}
use Rattle.pack.specs.declared.kernels.Kernel.{Kernel}
use Rattle.kernel.specs.declared.step.Stop.{Stop}
use Rattle.kernel.specs.declared.thread.Thread.{Thread}
use Rattle.kernel.specs.declared.step.Progress.{Progress}
use Rattle.kernel.specs.declared.step.Progress.TheVariants.{Running, Ended, Stopped}
use Rattle.kernel.specs.Step.{State, stops, stopped_as, goes_on, ends_thread, step_of}
use Rattle.kernel.specs.Run.{running, steps_of, run_of}
use Rattle.kernel.proofs.Runs.{AtRest, no_step, one-step_more, run_rests, ended_rests, stopped_rests}
use Rattle.kernel.proofs.StepByStep.{more-running, more_at_rest, one_more}
use Rattle.kernel.proofs.Steps.{step_cases}

-- a state that is a stop is that of this thread and window
abbrev StopsHere : Thread → List ℕ → Progress → State → Type 0
StopsHere t window Running s = Unit {0}
StopsHere t window Ended s = Unit {0}
StopsHere t window (Stopped why) s = s ≡ stopped_as why t window

-- a step that stops changes neither thread nor window
pub stopped-step : (limit : ℕ) (pack : List ℕ) (kernel : Kernel) (t : Thread) (window : List ℕ) (why : Stop)
    → (step_of limit pack kernel t window).stepped.progress ≡ Stopped why → step_of limit pack kernel t window ≡ stopped_as why t window
unfolding goes_on ends_thread stops
stopped-step limit pack kernel t window why e = subst (λ (p : Progress). StopsHere t window p (step_of limit pack kernel t window)) e here
  where
    here : StopsHere t window (step_of limit pack kernel t window).stepped.progress (step_of limit pack kernel t window)
    here = step_cases limit pack kernel t window (λ s. StopsHere t window s.stepped.progress s) (record {
      next = λ h t' place steps. tt;
      stored = λ h width a x. tt;
      stored_quad = λ h a q. tt;
      branched = λ h place multiple inside. tt;
      ended = λ h. tt;
      stopped = λ other only. refl;
    })

-- a run that is stopped by step n + 1 leaves what n steps made
pub stopped-run : (limit : ℕ) (pack : List ℕ) (kernel : Kernel) (t : Thread) (window : List ℕ) (n : ℕ) (t' : Thread) (window' : List ℕ) (why : Stop)
    → n ≤ limit → steps_of n limit pack kernel t window ≡ running t' window'
    → (step_of limit pack kernel t' window').stepped.progress ≡ Stopped why
    → run_of limit pack kernel t window ≡ stopped_as why t' window'
unfolding stops
stopped-run limit pack kernel t window n t' window' why h e stop =
    let here = one-step_more limit pack kernel t window n t' window' e ∙ stopped-step limit pack kernel t' window' why stop in
    run_rests limit pack kernel t window (n + 1) (omega arith) (stopped_rests {why = why} (rw here)) ∙ here

module _ (limit : ℕ) (pack : List ℕ) (kernel : Kernel) (t : Thread) (window : List ℕ) where
  -- the step that stopped a thread: it was running before it, and is since as it was then
  pub record StoppingStep (n : ℕ) (why : Stop) : Type 0 where
    pub steps : ℕ
    pub standing : Thread
    pub window_there : List ℕ
    pub still : steps_of steps limit pack kernel t window ≡ running standing window_there
    pub stop : step_of limit pack kernel standing window_there ≡ stopped_as why standing window_there
    pub left : steps_of n limit pack kernel t window ≡ stopped_as why standing window_there

  -- a thread that has stopped was stopped by one of its steps
  pub stopping_step : (n : ℕ) (why : Stop) → (steps_of n limit pack kernel t window).stepped.progress ≡ Stopped why → StoppingStep n why
  unfolding running
  stopping_step zero why e =
      let none : Running ≡ Stopped why = rw (no_step limit pack kernel t window) at e in
      absurd (let z : ◌≡◌ {A = ℕ} 0 1 = cc in omega arith)
  stopping_step (suc n) why e = go (steps_of n limit pack kernel t window).stepped.progress refl (stopping_step n why)
    where
      here : State
      here = steps_of n limit pack kernel t window

      rests : AtRest here.stepped.progress → steps_of (suc n) limit pack kernel t window ≡ here
      rests rest = one_more limit pack kernel t window n ∙ more_at_rest limit pack kernel here rest

      go : (p : Progress) → here.stepped.progress ≡ p → (here.stepped.progress ≡ Stopped why → StoppingStep n why) → StoppingStep (suc n) why
      go Running now lower =
          let next = one_more limit pack kernel t window n ∙ more-running limit pack kernel here now in
          let stop = stopped-step limit pack kernel here.stepped.thread here.window why (rw next at e) in
          record {
            steps = n;
            standing = here.stepped.thread;
            window_there = here.window;
            still = ap (λ p. record { stepped = record { thread = here.stepped.thread; progress = p }; window = here.window }) now;
            stop = stop;
            left = next ∙ stop;
          }
      go Ended now lower =
          let same = rests (ended_rests now) in
          absurd (let z : ◌≡◌ {A = ℕ} 0 1 = cc in omega arith)
      go (Stopped other) now lower =
          let same = rests (stopped_rests {why = other} now) in
          let s = lower (rw same at e) in
          record {
            steps = s.steps;
            standing = s.standing;
            window_there = s.window_there;
            still = s.still;
            stop = s.stop;
            left = same ∙ s.left;
          }
