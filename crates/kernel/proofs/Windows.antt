-- Steps, runs and dispatches change the window by stores alone: its length stays, and bytes stay bytes.
-- Assumes nothing.
use mathlib.Core.Path.{◌≡◌, refl, ◌∙◌}
use mathlib.Core.List.{List}
use Prim.Native.Nat.{ℕ}
use lib.ListN.{length}
use Rattle.memory.specs.declared.access.Width.{Width}
use Rattle.memory.specs.declared.quad.Quad.{Quad}
use Rattle.memory.specs.Access.{store_of}
use Rattle.memory.specs.Quad.{store_quad_of}
use Rattle.memory.proofs.After.{after-keeps}
use Rattle.memory.proofs.Places.{Bytes}
use Rattle.memory.proofs.Lengths.{store_length, store_quad_length}
use Rattle.memory.proofs.ByteSized.{store_bytes, store_quad_bytes}
use Rattle.pack.specs.declared.kernels.Kernel.{Kernel}
use Rattle.kernel.specs.declared.dispatch.ThreadStop.{ThreadStop}
use Rattle.kernel.specs.declared.thread.Thread.{Thread}
use Rattle.std.specs.Prelude.{Result, Ok, Err}
use Rattle.pack.specs.Kernels.{kernel_of}
use Rattle.kernel.specs.Step.{step_of}
use Rattle.kernel.specs.Run.{running, steps_of, run_of}
use Rattle.kernel.specs.Dispatch.{shown, if_done, going, thread_of, thread_more, threads_of, dispatch_of}
use Rattle.kernel.proofs.Steps.{step_cases}
use Rattle.kernel.proofs.StepByStep.{each_step-keeps}

-- what every store keeps
pub record KeptByStores (P : List ℕ → Type 0) : Type 0 where
  pub store : (m : List ℕ) (width : Width) (a v : ℕ) → P m → P (store_of m width a v)
  pub quad : (m : List ℕ) (a : ℕ) (q : Quad) → P m → P (store_quad_of m a q)

-- is kept by every step, run and dispatch
module _ (P : List ℕ → Type 0) (kept : KeptByStores P) (limit : ℕ) (pack : List ℕ) where
  module _ (kernel : Kernel) where
    pub step_keeps : (t : Thread) (window : List ℕ) → P window → P (step_of limit pack kernel t window).window
    step_keeps t window h = step_cases limit pack kernel t window (λ s. P s.window) (record {
      next = λ l t' place steps. h;
      stored = λ l width a x. kept.store window width a x h;
      stored_quad = λ l a q. kept.quad window a q h;
      branched = λ l place multiple inside. h;
      ended = λ l. h;
      stopped = λ why only. h;
    })

    pub steps_keep : (n : ℕ) (t : Thread) (window : List ℕ) → P window → P (steps_of n limit pack kernel t window).window
    unfolding running
    steps_keep = each_step-keeps limit pack kernel (λ s. P s.window) step_keeps

    pub run-keeps : (t : Thread) (window : List ℕ) → P window → P (run_of limit pack kernel t window).window
    unfolding run_of
    run-keeps t window h = steps_keep _ t window h

    module _ (groups threads : ℕ) where
      thread-keeps : (i : ℕ) (r : Result Unit ThreadStop) (window : List ℕ) → P window
          → P (thread_more limit pack kernel groups threads i (record { ran = r; window = window })).window
      unfolding thread_more if_done thread_of shown
      thread-keeps i (Ok u) window h = run-keeps _ window h
      thread-keeps i (Err stop) window h = h

      pub threads_keep : (n : ℕ) (window : List ℕ) → P window → P (threads_of n limit pack kernel groups threads window).window
      unfolding threads_of
      threads_keep n window h =
          after-keeps (thread_more limit pack kernel groups threads) (λ d. P d.window) n (going window)
          (λ i d b k. thread-keeps i d.ran d.window k) h

  pub dispatch-keeps : (k groups threads : ℕ) (window : List ℕ) → P window → P (dispatch_of limit pack k groups threads window).window
  unfolding dispatch_of
  dispatch-keeps k groups threads window h = threads_keep (kernel_of pack k) groups threads _ window h

-- every store keeps a window's length, and that its numbers are bytes
long : (n : ℕ) → KeptByStores (λ m. length m ≡ n)
long n = record { store = λ m width a v h. store_length m width a v ∙ h; quad = λ m a q h. store_quad_length m a q ∙ h }

bytes : KeptByStores Bytes
bytes = record { store = λ m width a v h. store_bytes m h width a v; quad = λ m a q h. store_quad_bytes m h a q }

module _ (limit : ℕ) (pack : List ℕ) (window : List ℕ) where
  -- no step, run, thread or dispatch changes the window's length
  pub step-length : (kernel : Kernel) (t : Thread) → length (step_of limit pack kernel t window).window ≡ length window
  step-length kernel t = step_keeps _ (long (length window)) limit pack kernel t window refl

  pub run_length : (kernel : Kernel) (t : Thread) → length (run_of limit pack kernel t window).window ≡ length window
  run_length kernel t = run-keeps _ (long (length window)) limit pack kernel t window refl

  pub threads-length : (n : ℕ) (kernel : Kernel) (groups threads : ℕ) → length (threads_of n limit pack kernel groups threads window).window ≡ length window
  threads-length n kernel groups threads = threads_keep _ (long (length window)) limit pack kernel groups threads n window refl

  pub dispatch-length : (k groups threads : ℕ) → length (dispatch_of limit pack k groups threads window).window ≡ length window
  dispatch-length k groups threads = dispatch-keeps _ (long (length window)) limit pack k groups threads window refl
