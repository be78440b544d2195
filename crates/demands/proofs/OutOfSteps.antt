-- A dispatch is out of steps exactly if its first thread to stop is still running after the limit's steps.
-- Assumes nothing.
use mathlib.Core.Path.{◌≡◌, refl, ap, ◌∙◌}
use mathlib.Core.List.{List}
use mathlib.Core.Logic.{◌↔◌}
use Prim.Native.Nat.{ℕ, ◌*◌, ◌/◌, ◌%◌}
use native.Mathlib.Nat.{mod-lt, div-lt_iff_lt-mul, div-add-mod'}
use native.Mathlib.Omega.{arith}
use Rattle.pack.specs.declared.kernels.Kernel.{Kernel}
use Rattle.kernel.specs.declared.step.Stop.{Stop}
use Rattle.kernel.specs.declared.step.Stop.TheVariants.{NotListed, OffTheKernel, OutsideTheWindow, OutOfSteps}
use Rattle.kernel.specs.declared.dispatch.ThreadStop.{ThreadStop}
use Rattle.std.specs.Prelude.{Result, Ok, Err}
use Rattle.kernel.specs.Thread.{started}
use Rattle.kernel.specs.Run.{run_of}
use Rattle.kernel.specs.Dispatch.{Dispatched, stop_at, thread_of, threads_of}
use Rattle.kernel.proofs.Dispatches.{threads_positive}
use Rattle.kernel.proofs.Threads.{shown-stopped, thread-number, thread_out_of_steps, stopped_by}
use Rattle.command.specs.Outcome.{outcome_number}
use Rattle.work.specs.Work.{stop_outcome, ran_outcome}
use Rattle.demands.specs.Stops.{stop_number}
use Rattle.demands.specs.EachStep.{FirstOutOfSteps}
use Rattle.demands.proofs.Stops.{number_below, stopper}

-- the number 14 is that of a stop for want of steps
fourteen : (why : Stop) → stop_number why ≡ 14 → why ≡ OutOfSteps
unfolding stop_outcome
fourteen NotListed e = absurd (omega (arith, e))
fourteen OffTheKernel e = absurd (omega (arith, e))
fourteen (OutsideTheWindow first) e = absurd (omega (arith, e))
fourteen OutOfSteps e = refl

module _ (limit : ℕ) (pack : List ℕ) (kernel : Kernel) (groups threads : ℕ) (window : List ℕ) where
  -- all threads
  abbrev all : Dispatched
  all = threads_of (groups * threads) limit pack kernel groups threads window

  out_then_first : (stop : ThreadStop) → all.ran ≡ Err stop → stop.why ≡ OutOfSteps → FirstOutOfSteps limit pack kernel groups threads window
  unfolding thread_of
  out_then_first stop e out =
      let s = stopper limit pack kernel groups threads window (groups * threads) stop e in
      let some = threads_positive groups threads s.number s.below in
      let g = s.number / threads in
      let j = s.number % threads in
      let t = started g j threads groups in
      let run = run_of limit pack kernel t s.left in
      let told = (shown-stopped g j run stop s.stopped).told ∙ ap (λ why. stop_at why run.stepped.thread.place g j) out in
      record {
        group = g;
        thread = j;
        group_below = (div-lt_iff_lt-mul some).1 s.below;
        thread_below = mod-lt s.number some;
        window-before = s.left;
        before = rw (div-add-mod' s.number threads) s.before;
        still = (thread_out_of_steps limit pack kernel groups threads g j s.left).0 (s.stopped ∙ ap Err told);
      }

  first_then_out : FirstOutOfSteps limit pack kernel groups threads window → outcome_number (ran_outcome all.ran) ≡ 14
  unfolding ran_outcome stop_outcome
  first_then_out f =
      let run = run_of limit pack kernel (started f.group f.thread threads groups) f.window-before in
      let stop = stop_at OutOfSteps run.stepped.thread.place f.group f.thread in
      let shows = (thread_out_of_steps limit pack kernel groups threads f.group f.thread f.window-before).1 f.still in
      let number = thread-number limit pack kernel groups threads f.group f.thread f.window-before f.thread_below in
      let below = number_below f.group f.thread groups threads f.group_below f.thread_below in
      let here = stopped_by limit pack kernel groups threads window (groups * threads) _ f.window-before stop below f.before (rw number shows) in
      rw (here, number, shows)

  pub first_out_of_steps : (outcome_number (ran_outcome all.ran) ≡ 14) ↔ FirstOutOfSteps limit pack kernel groups threads window
  unfolding ran_outcome
  first_out_of_steps = (λ e. there all.ran refl e, first_then_out)
    where
      there : (r : Result Unit ThreadStop) → all.ran ≡ r → outcome_number (ran_outcome r) ≡ 14 → FirstOutOfSteps limit pack kernel groups threads window
      there (Ok u) now e = absurd (omega (arith, e))
      there (Err stop) now e = out_then_first stop now (fourteen stop.why e)
