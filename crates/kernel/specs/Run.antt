-- A thread's run: its steps one after another, to its end or first stop.
use Rattle.std.specs.Prelude.{ℕ, ◌+◌, List}
use Rattle.memory.specs.After.{after}
use Rattle.pack.specs.declared.kernels.Kernel.{Kernel}
use Rattle.kernel.specs.declared.thread.Thread.{Thread}
use Rattle.kernel.specs.declared.step.Progress.{Progress}
use Rattle.kernel.specs.declared.step.Progress.TheVariants.{Running, Ended, Stopped}
use Rattle.kernel.specs.Step.{State, step_of}

-- the first of two while the thread is running, else the second
unfoldable pub if_running : {A : Type 0} → Progress → A → A → A
if_running Running x y = x
if_running Ended x y = y
if_running (Stopped why) x y = y

-- one step more; a thread that has ended or stopped stays as it is
unfoldable pub step_more : ℕ → List ℕ → Kernel → State → State
step_more limit pack kernel s = if_running s.stepped.progress (step_of limit pack kernel s.stepped.thread s.window) s

-- a thread about to take its next step
unfoldable pub running : Thread → List ℕ → State
running t window = record { stepped = record { thread = t; progress = Running }; window = window }

-- n steps one after another
unfoldable pub steps_of : ℕ → ℕ → List ℕ → Kernel → Thread → List ℕ → State
steps_of n limit pack kernel t window = after (λ i. step_more limit pack kernel) n (running t window)

-- a run: a thread that is still running after the limit's steps is stopped by the next
unfoldable pub run_of : ℕ → List ℕ → Kernel → Thread → List ℕ → State
run_of limit pack kernel t window = steps_of (limit + 1) limit pack kernel t window
