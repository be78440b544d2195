-- The instructions that were worked by hand, P4 to P10, on the definitions; P8 under any limit but 0 and P9 under any.
-- Assumes nothing.
use mathlib.Core.Path.{◌≡◌, refl, ◌∙◌}
use mathlib.Core.List.{List}
use Prim.Native.Nat.{ℕ, zero, suc, ◌*◌, ◌^◌, ◌≤◌, ◌<◌}
use native.Mathlib.Numerals.{add-one}
use borrow.Author.Tests.{lt-leb}
use native.Mathlib.Nat.{mul-pos}
use native.Mathlib.Omega.{arith}
use lib.ListN as ListN
use Rattle.words.specs.declared.lanes.LaneOp.TheVariants.{Add as VAdd}
use Rattle.words.specs.declared.lanes.LaneType.TheVariants.{I16, I8}
use Rattle.words.specs.Lanes.{lanes_of, lanewise}
use Rattle.words.specs.Counts.{first_set}
use Rattle.words.specs.Arithmetic.{magnitude}
use Rattle.memory.specs.Address.{first_outside, if_inside}
use Rattle.memory.specs.Place.{word_at}
use Rattle.memory.proofs.Reach.{reach_outside}
use Rattle.instruction.specs.declared.list.Op.TheVariants.{Alu, Unary, AluImm}
use Rattle.instruction.specs.declared.list.AluOp.TheVariants.{Add}
use Rattle.instruction.specs.declared.list.UnaryOp.TheVariants.{Abs, Clz}
use Rattle.instruction.specs.Rows.{scalar_row, plain_row, count_row, immediate_row, listed, width_by, store_row, cond_by, branch_row}
use Rattle.instruction.specs.Decode.{op_of, decoded}
use Rattle.instruction.specs.Meaning.{alu_of, unary_of, holds_of}
use Rattle.instruction.specs.Effect.{branch_effect, effect_of}
use Rattle.pack.specs.declared.kernels.Kernel.{Kernel}
use Rattle.kernel.specs.declared.step.Stop.{Stop}
use Rattle.kernel.specs.declared.step.Stop.TheVariants.{OutsideTheWindow, OutOfSteps}
use Rattle.kernel.specs.declared.thread.Thread.{Thread}
use Rattle.kernel.specs.declared.step.Progress.TheVariants.{Stopped}
use Rattle.std.specs.Prelude.{Err}
use Rattle.pack.specs.Kernels.{kernel_count, first_word, kernel_words, kernel_of}
use Rattle.kernel.specs.Registers.{scalar_of, with_scalar, start_registers}
use Rattle.kernel.specs.Thread.{started, written, advanced, moved_to}
use Rattle.kernel.specs.Step.{stops, goes_on, lands, branched, after_store, applied, executed, step_of}
use Rattle.kernel.specs.Run.{running, steps_of}
use Rattle.kernel.specs.Dispatch.{Dispatched, stop_at, ran_of, shown, dispatch_of}
use Rattle.kernel.specs.Examples.{fresh_thread, after_word, scalar, bytes_of_words, pack_of}
use Rattle.kernel.proofs.Runs.{no_step}
use Rattle.kernel.proofs.Steps.{at_the_limit}
use Rattle.kernel.proofs.StepByStep.{more-running, one_more}
use Rattle.kernel.proofs.Stopping.{stopped-run}
use Rattle.kernel.proofs.Threads.{first_stops}

-- FFF00297 (ADDI s5, s0, -1): 4,294,967,295
pub p4 : (op_of 0xFFF00297 ≡ AluImm Add 4294967295) × (scalar 5 (after_word 0xFFF00297 fresh_thread) ≡ 4294967295)
unfolding after_word started start_registers executed decoded op_of immediate_row effect_of alu_of applied goes_on advanced moved_to written with_scalar scalar_of
p4 = (refl, refl)

-- then 0052830B (ADD s6, s5, s5): 4,294,967,294
pub p5 : (op_of 0x0052830B ≡ Alu Add) × (scalar 6 (after_word 0x0052830B (after_word 0xFFF00297 fresh_thread)) ≡ 4294967294)
unfolding after_word started start_registers executed decoded op_of immediate_row scalar_row plain_row effect_of alu_of applied goes_on advanced moved_to written with_scalar scalar_of
p5 = (refl, refl)

-- 0002930B is ABS, here of s5 to s6: 1
pub p6 : (op_of 0x0002930B ≡ Unary Abs) × (scalar 6 (after_word 0x0002930B (after_word 0xFFF00297 fresh_thread)) ≡ 1)
unfolding after_word started start_registers executed decoded op_of immediate_row scalar_row plain_row effect_of alu_of unary_of magnitude applied goes_on advanced moved_to written with_scalar scalar_of
p6 = (refl, refl)

-- 0600030B (CLZ of s0), here to s6: 32
pub p7 : (op_of 0x0600030B ≡ Unary Clz) × (scalar 6 (after_word 0x0600030B fresh_thread) ≡ 32)
unfolding after_word started start_registers executed decoded op_of scalar_row count_row effect_of unary_of first_set applied goes_on advanced moved_to written with_scalar scalar_of
p7 = (refl, refl)

-- its kernel
abbrev the_kernel : Kernel
the_kernel = record { start = 16; length = 4 }

module _ (limit groups threads : ℕ) (window : List ℕ) where
  -- a dispatch whose first thread stopped at this place and left the window as it was
  abbrev stopped_first : Stop → ℕ → Dispatched
  stopped_first why place = record { ran = Err (stop_at why place 0 0); window = window }

  -- a dispatch whose first thread is stopped by a step that finds the window as it was
  stopped : (w n : ℕ) (t : Thread) (why : Stop) → 1 ≤ groups → 1 ≤ threads → n ≤ limit
      → steps_of n limit (pack_of w) the_kernel (started 0 0 threads groups) window ≡ running t window
      → (step_of limit (pack_of w) the_kernel t window).stepped.progress ≡ Stopped why
      → dispatch_of limit (pack_of w) 0 groups threads window ≡ stopped_first why t.place
  unfolding dispatch_of shown ran_of stops kernel_of kernel_count first_word kernel_words word_at bytes_of_words
  stopped w n t why hg ht h e stop =
      let run = stopped-run limit (pack_of w) the_kernel (started 0 0 threads groups) window n t window why h e stop in
      first_stops limit (pack_of w) the_kernel groups threads window (groups * threads) (stop_at why t.place 0 0) (mul-pos hg ht) (rw run) ∙ (rw run)

  -- FE502E0D (SW at -4 from s0): 13 at place 0, with the first address that is not inside, and nothing is stored
  pub p8 : 1 ≤ limit → 1 ≤ groups → 1 ≤ threads → ListN.length window < 2 ^ 32
      → dispatch_of limit (pack_of 0xFE502E0D) 0 groups threads window ≡ stopped_first (OutsideTheWindow (first_outside (ListN.length window) 4294967292)) 0
  unfolding started step_of executed decoded op_of listed width_by store_row effect_of applied after_store scalar_of if_inside stops word_at bytes_of_words
  p8 hl hg ht small =
      stopped 0xFE502E0D 0 (started 0 0 threads groups) (OutsideTheWindow (first_outside (ListN.length window) 4294967292)) hg ht (omega arith) (no_step _ _ _ _ _)
      (rw (lt-leb limit 0 hl, reach_outside (ListN.length window) 4294967292 4 (omega arith)))

  -- the thread after n branches to itself
  abbrev spun : ℕ → Thread
  spun n = record { registers = start_registers 0 0 threads groups; place = 0; steps = n }

  spin : (n : ℕ) → n < limit → step_of limit (pack_of 0x0000000E) the_kernel (spun n) window ≡ running (spun (suc n)) window
  unfolding step_of executed decoded op_of listed cond_by branch_row effect_of branch_effect holds_of applied branched lands moved_to scalar_of word_at running bytes_of_words
  spin n h = rw (lt-leb limit n h, add-one)

  spins : (n : ℕ) → n ≤ limit → steps_of n limit (pack_of 0x0000000E) the_kernel (spun 0) window ≡ running (spun n) window
  unfolding running
  spins zero h = no_step limit (pack_of 0x0000000E) the_kernel (spun 0) window
  spins (suc n) h =
      one_more limit _ the_kernel (spun 0) window n
      ∙ (rw (spins n (omega arith)) (more-running limit _ the_kernel (running (spun n) window) refl))
      ∙ spin n h

  -- 0000000E branches to itself: 14 at place 0
  pub p9 : 1 ≤ groups → 1 ≤ threads
      → dispatch_of limit (pack_of 0x0000000E) 0 groups threads window ≡ stopped_first OutOfSteps 0
  unfolding started stops
  p9 hg ht =
      stopped 0x0000000E limit (spun limit) OutOfSteps hg ht (omega arith) (spins limit (omega arith))
      (rw (at_the_limit limit (pack_of 0x0000000E) the_kernel (spun limit) window (omega arith)))

-- VADD.I8 of 010000FF and 01000001: 02000000; as I16: 02000100
pub p10 : (lanes_of VAdd I8 0x010000FF 0x01000001 ≡ 0x02000000) × (lanes_of VAdd I16 0x010000FF 0x01000001 ≡ 0x02000100)
unfolding lanes_of lanewise
p10 = (refl, refl)
