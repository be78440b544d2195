-- A run is its steps one after another, and ends with the first that leaves the thread not running.
-- Assumes nothing.
use mathlib.Core.Path.{◌≡◌, refl, ap}
use mathlib.Core.List.{List}
use Prim.Native.Nat.{ℕ, ◌+◌, ◌≤◌}
use native.Mathlib.Numerals.{add-one}
use native.Mathlib.Omega.{arith}
use Rattle.memory.specs.After.{after}
use Rattle.memory.proofs.After.{after_stays}
use Rattle.pack.specs.declared.kernels.Kernel.{Kernel}
use Rattle.kernel.specs.declared.thread.Thread.{Thread}
use Rattle.kernel.specs.declared.step.Stepped.{Stepped}
use Rattle.kernel.specs.declared.step.Progress.{Progress}
use Rattle.kernel.specs.declared.step.Progress.TheVariants.{Running, Ended, Stopped}
use Rattle.kernel.specs.Step.{State, Shows, step_of}
use Rattle.kernel.specs.Run.{if_running, step_more, running, steps_of, run_of}

-- a thread that has ended or stopped is at rest
abbrev pub AtRest : Progress → Type 0
AtRest p = (x y : State) → if_running p x y ≡ y

pub ended_rests : {p : Progress} → p ≡ Ended → AtRest p
unfolding if_running
ended_rests e x y = rw e

pub stopped_rests : {p : Progress} {why : _} → p ≡ Stopped why → AtRest p
unfolding if_running
stopped_rests e x y = rw e

-- what a running thread shows is a thread about to take its next step
pub still-running : (s : State) (r : Stepped) (window : List ℕ) → Shows r window s → r.progress ≡ Running → s ≡ running r.thread window
unfolding running
still-running s r window h e = rw (← e, h.answer, h.window)

module _ (limit : ℕ) (pack : List ℕ) (kernel : Kernel) (t : Thread) (window : List ℕ) where
  -- no step leaves the thread about to take its first
  pub no_step : steps_of 0 limit pack kernel t window ≡ running t window
  unfolding steps_of after
  no_step = refl

  -- one step more of a running thread is a step
  pub one-step_more : (n : ℕ) (t' : Thread) (window' : List ℕ) → steps_of n limit pack kernel t window ≡ running t' window'
      → steps_of (n + 1) limit pack kernel t window ≡ step_of limit pack kernel t' window'
  unfolding steps_of after step_more if_running running
  one-step_more n t' window' e = rw add-one (ap (step_more limit pack kernel) e)

  -- a thread at rest after n steps is so at the run's end
  pub run_rests : (n : ℕ) → n ≤ limit + 1 → AtRest (steps_of n limit pack kernel t window).stepped.progress
      → run_of limit pack kernel t window ≡ steps_of n limit pack kernel t window
  unfolding steps_of run_of step_more
  run_rests n h rest = after_stays (λ i. step_more limit pack kernel) (running t window) n (limit + 1) h (λ i. rest _ _)

  -- a run ends with the first step that leaves the thread at rest
  pub run_shows : (n : ℕ) (t' : Thread) (window' : List ℕ) (r : Stepped) (window'' : List ℕ) → n ≤ limit
      → steps_of n limit pack kernel t window ≡ running t' window'
      → Shows r window'' (step_of limit pack kernel t' window') → AtRest r.progress
      → Shows r window'' (run_of limit pack kernel t window)
  run_shows n t' window' r window'' h e s rest =
      let here = one-step_more n t' window' e in
      let same : (steps_of (n + 1) limit pack kernel t window).stepped.progress ≡ r.progress = rw (here, ← s.answer) in
      rw (run_rests (n + 1) (omega arith) (rw same rest), here) s

  -- a thread that was running to the last
  pub run_runs_out : (n : ℕ) (t' : Thread) (window' : List ℕ) → n ≡ limit + 1 → steps_of n limit pack kernel t window ≡ running t' window'
      → Shows (record { thread = t'; progress = Running }) window' (run_of limit pack kernel t window)
  unfolding run_of running
  run_runs_out n t' window' same e = rw (← same, e) (record { answer = refl; window = refl })
