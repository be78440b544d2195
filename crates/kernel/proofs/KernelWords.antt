-- A thread's result depends on the kernel's words, the window and the thread's four inputs alone.
-- Assumes nothing.
use mathlib.Core.Path.{◌≡◌, refl, sym, ◌∙◌}
use mathlib.Core.List.{List}
use mathlib.Core.Logic.{◌⊎◌, inl, inr}
use Prim.Native.Nat.{ℕ, zero, suc, ◌+◌, ◌*◌, ◌/◌, ◌%◌, ◌≤◌, ◌<◌}
use native.Mathlib.Omega.{arith}
use Rattle.words.proofs.Order.{lt_or_ge}
use Rattle.memory.specs.After.{after}
use Rattle.memory.proofs.After.{after-agree}
use Rattle.pack.specs.declared.kernels.Kernel.{Kernel}
use Rattle.kernel.specs.declared.thread.Thread.{Thread}
use Rattle.kernel.specs.declared.step.Progress.{Progress}
use Rattle.kernel.specs.declared.step.Progress.TheVariants.{Running, Ended, Stopped}
use Rattle.pack.specs.Kernels.{kernel_of, code_word}
use Rattle.kernel.specs.Thread.{started, moved_to, advanced}
use Rattle.kernel.specs.Step.{stops, goes_on, ends_thread, step_of}
use Rattle.kernel.specs.Run.{if_running, step_more, running, steps_of, run_of}
use Rattle.kernel.specs.Dispatch.{going, thread_of, thread_more, threads_of, dispatch_of}
use Rattle.kernel.proofs.StepByStep.{each_step-keeps}
use Rattle.kernel.proofs.Steps.{at_the_limit, off_the_end, instruction_done, step_cases}

-- a thread stands at a multiple of 4
abbrev pub Aligned : Thread → Type 0
Aligned t = t.place % 4 ≡ 0

module _ (limit : ℕ) (pack : List ℕ) (kernel : Kernel) where
  step_aligned : (t : Thread) (window : List ℕ) → Aligned t → Aligned (step_of limit pack kernel t window).stepped.thread
  unfolding goes_on ends_thread stops advanced moved_to
  step_aligned t window aligned = step_cases limit pack kernel t window (λ s. Aligned s.stepped.thread) (record {
    next = λ h t' place steps. omega arith;
    stored = λ h width a x. omega arith;
    stored_quad = λ h a q. omega arith;
    branched = λ h place multiple inside. multiple;
    ended = λ h. omega arith;
    stopped = λ why only. aligned;
  })

  -- a thread that starts at a multiple of 4 always stands at one
  pub steps_aligned : (n : ℕ) (t : Thread) (window : List ℕ) → Aligned t → Aligned (steps_of n limit pack kernel t window).stepped.thread
  unfolding running
  steps_aligned = each_step-keeps limit pack kernel (λ s. Aligned s.stepped.thread) step_aligned

-- two kernels of the same length, with the same words
pub record SameWords (pack₁ : List ℕ) (kernel₁ : Kernel) (pack₂ : List ℕ) (kernel₂ : Kernel) : Type 0 where
  pub length : kernel₁.length ≡ kernel₂.length
  pub words : (place : ℕ) → place < kernel₁.length → place % 4 ≡ 0
      → code_word pack₁ kernel₁ place ≡ code_word pack₂ kernel₂ place

module _ (limit : ℕ) (pack₁ : List ℕ) (kernel₁ : Kernel) (pack₂ : List ℕ) (kernel₂ : Kernel) (same : SameWords pack₁ kernel₁ pack₂ kernel₂) where
  -- the same step
  pub same_step : (t : Thread) (window : List ℕ) → Aligned t → step_of limit pack₁ kernel₁ t window ≡ step_of limit pack₂ kernel₂ t window
  same_step t window aligned = go (lt_or_ge t.steps limit) (lt_or_ge t.place kernel₁.length)
    where
      go : (t.steps < limit) ⊎ (limit ≤ t.steps) → (t.place < kernel₁.length) ⊎ (kernel₁.length ≤ t.place)
          → step_of limit pack₁ kernel₁ t window ≡ step_of limit pack₂ kernel₂ t window
      go (inr h) place = at_the_limit limit pack₁ kernel₁ t window h ∙ sym (at_the_limit limit pack₂ kernel₂ t window h)
      go (inl h) (inr off) =
          off_the_end limit pack₁ kernel₁ t window h off
          ∙ sym (off_the_end limit pack₂ kernel₂ t window h (omega (arith, same.length)))
      go (inl h) (inl on) =
          instruction_done limit pack₁ kernel₁ t window h on
          ∙ (rw (same.words t.place on aligned, same.length))
          ∙ sym (instruction_done limit pack₂ kernel₂ t window h (omega (arith, same.length)))

  same_more : (p : Progress) (t : Thread) (window : List ℕ) → Aligned t
      → step_more limit pack₁ kernel₁ (record { stepped = record { thread = t; progress = p }; window = window })
      ≡ step_more limit pack₂ kernel₂ (record { stepped = record { thread = t; progress = p }; window = window })
  unfolding step_more if_running
  same_more Running t window aligned = same_step t window aligned
  same_more Ended t window aligned = refl
  same_more (Stopped why) t window aligned = refl

  -- the same steps, one after another
  pub same-steps : (n : ℕ) (t : Thread) (window : List ℕ) → Aligned t
      → steps_of n limit pack₁ kernel₁ t window ≡ steps_of n limit pack₂ kernel₂ t window
  unfolding steps_of after
  same-steps zero t window aligned = refl
  same-steps (suc n) t window aligned =
      same_more _ _ _ (steps_aligned limit pack₁ kernel₁ n t window aligned) ∙ (rw (same-steps n t window aligned))

  -- the same run, so a thread's result depends on the words, the window and its four inputs
  pub same-run : (group thread threads groups : ℕ) (window : List ℕ)
      → run_of limit pack₁ kernel₁ (started group thread threads groups) window ≡ run_of limit pack₂ kernel₂ (started group thread threads groups) window
  unfolding run_of started
  same-run group thread threads groups window = same-steps (limit + 1) _ window refl

  -- and the same threads one after another
  pub same-threads : (n groups threads : ℕ) (window : List ℕ)
      → threads_of n limit pack₁ kernel₁ groups threads window ≡ threads_of n limit pack₂ kernel₂ groups threads window
  unfolding threads_of thread_more thread_of
  same-threads n groups threads window =
      after-agree _ _ n (going window) (λ i d b. rw (same-run (i / threads) (i % threads) threads groups d.window))

-- a dispatch depends on its kernel's words and the window alone
pub same-dispatch : (limit : ℕ) (pack₁ pack₂ : List ℕ) (k₁ k₂ : ℕ) → SameWords pack₁ (kernel_of pack₁ k₁) pack₂ (kernel_of pack₂ k₂)
    → (groups threads : ℕ) (window : List ℕ) → dispatch_of limit pack₁ k₁ groups threads window ≡ dispatch_of limit pack₂ k₂ groups threads window
unfolding dispatch_of
same-dispatch limit pack₁ pack₂ k₁ k₂ same groups threads window =
    same-threads limit pack₁ (kernel_of pack₁ k₁) pack₂ (kernel_of pack₂ k₂) same (groups * threads) groups threads window
