-- A dispatch's threads: which they are, in which order they run, what is told of a stop, and that it ends the whole dispatch.
-- Assumes nothing.
use mathlib.Core.Path.{◌≡◌, refl, ◌∙◌}
use mathlib.Core.List.{List}
use mathlib.Core.Logic.{◌↔◌}
use Prim.Native.Nat.{ℕ, suc, ◌+◌, ◌*◌, ◌/◌, ◌%◌, ◌≤◌, ◌<◌}
use native.Mathlib.Nat.{mul-add-div_right, mul-add-mod_self_right, div-eq_of_lt, mod-eq_of_lt, zero-div, zero-mod, add-zero}
use native.Mathlib.Omega.{arith}
use Rattle.memory.specs.After.{after}
use Rattle.memory.proofs.After.{after-agree, after_stays, after_rows}
use Rattle.pack.specs.declared.kernels.Kernel.{Kernel}
use Rattle.kernel.specs.declared.step.Stop.{Stop}
use Rattle.kernel.specs.declared.step.Stop.TheVariants.{OutOfSteps}
use Rattle.kernel.specs.declared.step.Progress.{Progress}
use Rattle.kernel.specs.declared.step.Progress.TheVariants.{Running, Ended, Stopped}
use Rattle.kernel.specs.declared.dispatch.ThreadStop.{ThreadStop}
use Rattle.std.specs.Prelude.{Ok, Err}
use Rattle.pack.specs.Kernels.{kernel_of}
use Rattle.kernel.specs.Thread.{started}
use Rattle.kernel.specs.Step.{State}
use Rattle.kernel.specs.Run.{steps_of, run_of}
use Rattle.kernel.specs.Dispatch.{Dispatched, stop_at, ran_of, shown, if_done, going, thread_of, thread_more, threads_of, dispatch_of}
use Rattle.kernel.proofs.Dispatches.{no_thread, one_thread-more}
use Rattle.kernel.proofs.StepLimit.{run_not_running, out_of_steps}

-- thread g · threads + j is thread j of group g
pub group_of : (g j threads : ℕ) → j < threads → (g * threads + j) / threads ≡ g
group_of g j threads h = mul-add-div_right (omega arith) g j ∙ (rw (div-eq_of_lt h) (add-zero g))

pub thread_of_lem : (g j threads : ℕ) → j < threads → (g * threads + j) % threads ≡ j
thread_of_lem g j threads h = mul-add-mod_self_right g threads j ∙ mod-eq_of_lt h

-- a thread starts with no step taken
pub starts_fresh : (g j threads groups : ℕ) → (started g j threads groups).steps ≡ 0
unfolding started
starts_fresh g j threads groups = refl

module _ (place group thread : ℕ) where
  ran_done : (p : Progress) → (p ≡ Running → ⊥) → ran_of p place group thread ≡ Ok tt → p ≡ Ended
  unfolding ran_of
  ran_done Running not e = absurd (not refl)
  ran_done Ended not e = refl
  ran_done (Stopped why) not e = cc

  ran-why : (p : Progress) (stop : ThreadStop) → ran_of p place group thread ≡ Err stop → p ≡ Stopped stop.why
  unfolding ran_of
  ran-why Running stop e = cc
  ran-why Ended stop e = cc
  ran-why (Stopped why) stop e = cc

-- what is told of the stop of a thread of a group: why, and the thread's place, group and number
pub record StopOf (group thread : ℕ) (s : State) (stop : ThreadStop) : Type 0 where
  pub why : s.stepped.progress ≡ Stopped stop.why
  pub told : stop ≡ stop_at stop.why s.stepped.thread.place group thread

module _ (group thread : ℕ) (s : State) where
  -- a thread that has stopped is shown so
  pub stopped-shown : (why : Stop) → s.stepped.progress ≡ Stopped why
      → (shown group thread s).ran ≡ Err (stop_at why s.stepped.thread.place group thread)
  unfolding shown ran_of
  stopped-shown why e = rw e

  -- and only one that has
  pub shown-stopped : (stop : ThreadStop) → (shown group thread s).ran ≡ Err stop → StopOf group thread s stop
  unfolding shown
  shown-stopped stop e =
      let why = ran-why s.stepped.thread.place group thread s.stepped.progress stop e in
      let same = stopped-shown stop.why why in
      record { why = why; told = cc }

module _ (limit : ℕ) (pack : List ℕ) (kernel : Kernel) (groups threads : ℕ) where
  -- the run of thread j of group g
  abbrev run_of_thread : ℕ → ℕ → List ℕ → State
  run_of_thread g j window = run_of limit pack kernel (started g j threads groups) window

  -- thread j of group g after what came before it; after a stop nothing
  abbrev pub thread_of_group : ℕ → ℕ → Dispatched → Dispatched
  thread_of_group g j d = if_done d.ran (shown g j (run_of_thread g j d.window)) d

  -- so thread number g · threads + j is the run of thread j of group g
  pub thread-number : (g j : ℕ) (window : List ℕ) → j < threads
      → thread_of limit pack kernel groups threads (g * threads + j) window ≡ shown g j (run_of_thread g j window)
  unfolding thread_of
  thread-number g j window h = rw (group_of g j threads h, thread_of_lem g j threads h)

  module _ (g j : ℕ) (window : List ℕ) where
    -- a thread is done exactly if its run came to its end
    pub thread_done : ((shown g j (run_of_thread g j window)).ran ≡ Ok tt) ↔ ((run_of_thread g j window).stepped.progress ≡ Ended)
    unfolding shown ran_of
    thread_done = (
      ran_done _ g j _ (run_not_running limit pack kernel (started g j threads groups) window (starts_fresh g j threads groups)),
      λ e. rw e,
    )

    -- it is stopped with 14 exactly if it is still running after the limit's steps
    pub thread_out_of_steps : ((shown g j (run_of_thread g j window)).ran ≡ Err (stop_at OutOfSteps (run_of_thread g j window).stepped.thread.place g j))
        ↔ ((steps_of limit limit pack kernel (started g j threads groups) window).stepped.progress ≡ Running)
    thread_out_of_steps =
        let run = out_of_steps limit pack kernel (started g j threads groups) window (starts_fresh g j threads groups) in
        (λ e. run.0 (shown-stopped g j (run_of_thread g j window) _ e).why, λ e. stopped-shown g j (run_of_thread g j window) OutOfSteps (run.1 e))

  module _ (window : List ℕ) where
    -- the first n threads
    abbrev first : ℕ → Dispatched
    first n = threads_of n limit pack kernel groups threads window

    -- n + 1 threads are n threads and then one more
    pub one_more-thread : (n : ℕ) → first (suc n) ≡ thread_more limit pack kernel groups threads n (first n)
    unfolding threads_of after
    one_more-thread n = refl

    -- a stop ends the whole dispatch, and the window stays as it was left
    pub stop-ends : (n m : ℕ) (stop : ThreadStop) → n ≤ m → (first n).ran ≡ Err stop → first m ≡ first n
    unfolding threads_of thread_more if_done
    stop-ends n m stop h e = after_stays (thread_more limit pack kernel groups threads) (going window) n m h (λ i. rw e)

    by_groups : threads_of (groups * threads) limit pack kernel groups threads window
        ≡ after (λ g. after (thread_of_group g) threads) groups (going window)
    unfolding threads_of thread_more
    by_groups =
        after_rows (thread_more limit pack kernel groups threads) groups threads (going window)
        ∙ after-agree _ _ groups (going window) (λ g d b. after-agree _ _ threads d (λ j x h. rw (thread-number g j x.window h)))

    -- the first thread that stops ends the dispatch, which leaves what that thread's run left
    pub stopped_by : (n i : ℕ) (window' : List ℕ) (stop : ThreadStop) → i < n → first i ≡ going window'
        → (thread_of limit pack kernel groups threads i window').ran ≡ Err stop
        → first n ≡ thread_of limit pack kernel groups threads i window'
    stopped_by n i window' stop h e stopped =
        let here = one_thread-more limit pack kernel groups threads window i window' e in
        stop-ends (i + 1) n stop (omega arith) (rw here stopped) ∙ here

    pub first_stops : (n : ℕ) (stop : ThreadStop) → 0 < n → (shown 0 0 (run_of_thread 0 0 window)).ran ≡ Err stop
        → first n ≡ shown 0 0 (run_of_thread 0 0 window)
    unfolding thread_of
    first_stops n stop h stopped =
        let zeroth : thread_of limit pack kernel groups threads 0 window ≡ shown 0 0 (run_of_thread 0 0 window) = rw (zero-div threads, zero-mod threads) in
        stopped_by n 0 window stop h (no_thread limit pack kernel groups threads window) (rw zeroth stopped) ∙ zeroth

-- a dispatch goes by groups from 0 up, and in each group by threads from 0 up
pub dispatch_by_groups : (limit : ℕ) (pack : List ℕ) (k groups threads : ℕ) (window : List ℕ)
    → dispatch_of limit pack k groups threads window
    ≡ after (λ g. after (thread_of_group limit pack (kernel_of pack k) groups threads g) threads) groups (going window)
unfolding dispatch_of
dispatch_by_groups limit pack k groups threads window = by_groups limit pack (kernel_of pack k) groups threads window
