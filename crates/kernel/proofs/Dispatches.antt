-- A dispatch is its threads one after another, and ends with the first that stops.
-- Assumes nothing.
use mathlib.Core.Path.{◌≡◌, refl, ap, ◌∙◌}
use mathlib.Core.List.{List}
use Prim.Native.Nat.{ℕ, zero, suc, ◌+◌, ◌*◌, ◌≤◌, ◌<◌}
use native.Mathlib.Nat.{mul-zero, zero-lt-suc, not-suc-le-zero}
use native.Mathlib.Numerals.{add-one}
use Rattle.memory.specs.After.{after}
use Rattle.memory.proofs.After.{after_stays}
use Rattle.pack.specs.declared.kernels.Kernel.{Kernel}
use Rattle.kernel.specs.declared.dispatch.ThreadStop.{ThreadStop}
use Rattle.std.specs.Prelude.{Result, Ok, Err}
use Rattle.kernel.specs.Dispatch.{ShowsRan, if_done, going, thread_of, thread_more, threads_of}

-- a dispatch that has a thread has threads in a group
pub threads_positive : (groups threads i : ℕ) → i < groups * threads → 0 < threads
threads_positive groups zero i h = absurd (not-suc-le-zero (rw mul-zero at h))
threads_positive groups (suc n) i h = zero-lt-suc n

module _ (limit : ℕ) (pack : List ℕ) (kernel : Kernel) (groups threads : ℕ) (window : List ℕ) where
  pub no_thread : threads_of 0 limit pack kernel groups threads window ≡ going window
  unfolding threads_of after
  no_thread = refl

  -- one thread more of a dispatch that goes on is that thread's run
  pub one_thread-more : (n : ℕ) (window' : List ℕ) → threads_of n limit pack kernel groups threads window ≡ going window'
      → threads_of (n + 1) limit pack kernel groups threads window ≡ thread_of limit pack kernel groups threads n window'
  unfolding threads_of after thread_more if_done
  one_thread-more n window' e = rw add-one (ap (thread_more limit pack kernel groups threads n) e)

  -- a dispatch that goes on after that thread
  pub still-going : (n : ℕ) (window' window'' : List ℕ) (r : Result Unit ThreadStop) → threads_of n limit pack kernel groups threads window ≡ going window'
      → ShowsRan r window'' (thread_of limit pack kernel groups threads n window') → r ≡ Ok tt
      → threads_of (n + 1) limit pack kernel groups threads window ≡ going window''
  still-going n window' window'' r e s done = one_thread-more n window' e ∙ (rw (← done, s.answer, s.window))

  -- a stop ends the whole dispatch
  pub stop_stays : (n m : ℕ) (window' window'' : List ℕ) (r : Result Unit ThreadStop) (stop : ThreadStop) → n + 1 ≤ m
      → threads_of n limit pack kernel groups threads window ≡ going window'
      → ShowsRan r window'' (thread_of limit pack kernel groups threads n window') → r ≡ Err stop
      → ShowsRan (Err stop) window'' (threads_of m limit pack kernel groups threads window)
  unfolding threads_of thread_more if_done
  stop_stays n m window' window'' r stop h e s stopped =
      let here = one_thread-more n window' e in
      let at-stop : (threads_of (n + 1) limit pack kernel groups threads window).ran ≡ Err stop = rw (here, ← s.answer, stopped) in
      let stays = after_stays (thread_more limit pack kernel groups threads) (going window) (n + 1) m h (λ i. rw at-stop) in
      rw (stays, here) (record { answer = rw (← stopped) s.answer; window = s.window })
