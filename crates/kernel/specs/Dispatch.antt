-- A dispatch: its threads one after another, group 0 thread 0 first, each to its end.
use Rattle.std.specs.Prelude.{ℕ, ◌*◌, ◌/◌, ◌%◌, ◌≡◌, List, Result, Ok, Err}
use Rattle.memory.specs.After.{after}
use Rattle.pack.specs.declared.kernels.Kernel.{Kernel}
use Rattle.kernel.specs.declared.step.Stop.{Stop}
use Rattle.kernel.specs.declared.step.Progress.{Progress}
use Rattle.kernel.specs.declared.step.Progress.TheVariants.{Running, Ended, Stopped}
use Rattle.kernel.specs.declared.dispatch.ThreadStop.{ThreadStop}
use Rattle.pack.specs.Kernels.{kernel_of}
use Rattle.kernel.specs.Thread.{started}
use Rattle.kernel.specs.Step.{State}
use Rattle.kernel.specs.Run.{run_of}

-- what became of a dispatch, and the window it leaves
pub record Dispatched : Type 0 where
  pub ran : Result Unit ThreadStop
  pub window : List ℕ

-- what a function returns and leaves in the window is this
pub record ShowsRan (r : Result Unit ThreadStop) (left : List ℕ) (d : Dispatched) : Type 0 where
  pub answer : r ≡ d.ran
  pub window : left ≡ d.window

-- a stop, with the thread's place, its group and its number there
abbrev pub stop_at : Stop → ℕ → ℕ → ℕ → ThreadStop
stop_at why place group thread = record { why = why; place = place; group = group; thread = thread }

-- what a thread's progress means for its dispatch
unfoldable pub ran_of : Progress → ℕ → ℕ → ℕ → Result Unit ThreadStop
ran_of Running place group thread = Ok tt
ran_of Ended place group thread = Ok tt
ran_of (Stopped why) place group thread = Err (stop_at why place group thread)

-- what a dispatch sees of the state of a thread of a group
unfoldable pub shown : ℕ → ℕ → State → Dispatched
shown group thread s = record { ran = ran_of s.stepped.progress s.stepped.thread.place group thread; window = s.window }

-- the first of two while no thread has stopped, else the second
unfoldable pub if_done : {A : Type 0} → Result Unit ThreadStop → A → A → A
if_done (Ok u) x y = x
if_done (Err stop) x y = y

-- thread i of the dispatch is thread i % threads of group i / threads
unfoldable pub thread_of : ℕ → List ℕ → Kernel → ℕ → ℕ → ℕ → List ℕ → Dispatched
thread_of limit pack kernel groups threads i window =
    shown (i / threads) (i % threads) (run_of limit pack kernel (started (i / threads) (i % threads) threads groups) window)

-- one thread more; a stop ends the whole dispatch
unfoldable pub thread_more : ℕ → List ℕ → Kernel → ℕ → ℕ → ℕ → Dispatched → Dispatched
thread_more limit pack kernel groups threads i d = if_done d.ran (thread_of limit pack kernel groups threads i d.window) d

-- a dispatch of which no thread has stopped
abbrev pub going : List ℕ → Dispatched
going window = record { ran = Ok tt; window = window }

-- n threads one after another
unfoldable pub threads_of : ℕ → ℕ → List ℕ → Kernel → ℕ → ℕ → List ℕ → Dispatched
threads_of n limit pack kernel groups threads window = after (thread_more limit pack kernel groups threads) n (going window)

-- groups · threads threads of kernel k
unfoldable pub dispatch_of : ℕ → List ℕ → ℕ → ℕ → ℕ → List ℕ → Dispatched
dispatch_of limit pack k groups threads window = threads_of (groups * threads) limit pack (kernel_of pack k) groups threads window
