-- The table of examples, by computation.
-- Assumes nothing.
use mathlib.Core.Path.{◌≡◌, refl}
use mathlib.Core.List.{List, [], ◌∷◌}
use Prim.Native.Nat.{ℕ, ◌≤◌}
use native.Mathlib.Omega.{arith}
use borrow.Author.Tests.{le-leb}
use lib.ListN.{length, replicate}
use Rattle.words.specs.Lanes.{lanes_of, lanewise}
use Rattle.instruction.specs.Rows.{scalar_row, plain_row, immediate_row, listed, width_by, store_row, cond_by, branch_row, system_row, lane_type_by, lane_row, vector_row}
use Rattle.instruction.specs.Meaning.{alu_of, holds_of}
use Rattle.instruction.specs.Decode.{unused_is0, vector_of, op_of, decoded}
use Rattle.instruction.specs.Effect.{branch_effect, effect_of}
use Rattle.instruction.specs.Vectors.{quad_of, with_quad, lanes_of_quads, broadcast}
use Rattle.kernel.specs.declared.step.Stop.{Stop}
use Rattle.kernel.specs.declared.step.Stop.TheVariants.{NotListed, OffTheKernel, OutsideTheWindow, OutOfSteps}
use Rattle.std.specs.Prelude.{Ok, Err}
use Rattle.kernel.specs.Registers.{start_registers, scalar_of, with_scalar, with_vector}
use Rattle.kernel.specs.Thread.{started, written, written_vector, moved_to, advanced}
use Rattle.kernel.specs.Step.{stops, goes_on, ends_thread, lands, branched, after_store, applied, executed, step_of}
use Rattle.kernel.specs.Run.{if_running, step_more, running, steps_of, run_of}
use Rattle.kernel.specs.Dispatch.{Dispatched, stop_at, ran_of, shown, if_done, thread_of, thread_more, threads_of, dispatch_of}
use Rattle.kernel.specs.Site.{site_at, site_of}
use Rattle.kernel.proofs.Examples as kernel
use Rattle.kernel.specs.Examples.{after_word, bytes_of_words, pack_of_words, pack_of}
use Rattle.demands.specs.Table.{framed_under, colored, StopOn0, one_thread, holding, vector, Table, LeastLimit, WhereStopped, Scrolled, RoundTheWrap, ReadyNoLonger}
use Rattle.state.specs.Device.{default_limit, fresh_device, ring_of, slot_of, with_ring, with_slots, with_marker, with_counts}
use Rattle.state.specs.PlusOne.{plus_one_at}
use Rattle.state.specs.Counts.{counted, balanced}
use Rattle.state.specs.Refusal.{window_fits, memory_fits, windows_fit, ring_sound, limit_fits, state_sound, ring_fits, rings_fit, verdict_of}
use Rattle.state.specs.Ready.{ready_with, ready_where, ready_at, next_ring, seek, bytes_of_ring, pick_of}
use Rattle.device.specs.Answer.{values_of}
use Rattle.device.specs.Turn.{unchanged, emit_to, ring_after, device_after, report_of, finished, served_of, picked_of, judged_of, verdict_on, turn_of}
use Rattle.command.specs.Opcode.{opcode_of}
use Rattle.command.specs.Table.{row_of}
use Rattle.command.specs.Header.{wait_size, payload_size, target_at, command_at, is_whole}
use Rattle.command.specs.Faults.{unknown_opcode, wrong_payload_bit, no_such_slot, header_fault}
use Rattle.command.specs.Frame.{held_by, frame_misaligned, frame_unfit, frame_fault, held_fault}
use Rattle.work.specs.Shape.{is_rectangle, size_of, width_of, height_of, end_of, too_narrow}
use Rattle.work.specs.Checks.{slot_fault, misaligned, unframed, outside, unfit_frame, out_of_range, unfit_dispatch, check_of}
use Rattle.command.specs.Report.{emits, interrupts, words_read}
use Rattle.work.specs.Work.{leaves, stop_outcome, ran_outcome, ran_as, dispatched_by, after_dispatch, work_by, work_of}
use Rattle.work.specs.Perform.{or_else, fault_of, guarded, performed_of}
use Rattle.memory.specs.Address.{first_outside, reach_of, if_inside}
use Rattle.memory.specs.Access.{with_value, store_of}
use Rattle.memory.specs.After.{after}
use Rattle.memory.specs.Place.{half_at, word_at, with_byte, with_half, with_word}
use Rattle.memory.specs.Rectangle.{rectangle_end, words_put, pixels_put, filled}
use Rattle.memory.specs.Copy.{copied, blitted}
use Rattle.memory.specs.Window.{window_of, put_back}
use Rattle.memory.proofs.Reach.{first_is_own}
use Rattle.pack.specs.Kernels.{kernel_count, first_word, kernel_words, code_count, lies_in_code, sound_pack, kernel_of}
use Rattle.words.specs.Choice.{all_below}

vadd : (vector 3 (after_word 0x0020A1AF (holding 0x010000FF 0x01000001)) ≡ broadcast 0x02000000)
    × (vector 3 (after_word 0x002091AF (holding 0x010000FF 0x01000001)) ≡ broadcast 0x02000100)
unfolding after_word started start_registers executed decoded op_of vector_of unused_is0 listed lane_type_by lane_row vector_row effect_of applied goes_on advanced moved_to written_vector with_vector with_quad quad_of lanes_of_quads lanes_of lanewise
vadd = (refl, refl)

-- a dispatch that stops so and leaves a window of zeros
abbrev stopped : Stop → ℕ → ℕ → ℕ → Dispatched
stopped why place group thread =
    record { ran = Err (stop_at why place group thread); window = replicate 64 0 }

-- a kernel of one word under the least limits
least : (dispatch_of 1 (pack_of 0xFFF00297) 0 1 1 (replicate 64 0) ≡ stopped OutOfSteps 4 0 0)
    × (dispatch_of 2 (pack_of 0xFFF00297) 0 1 1 (replicate 64 0) ≡ stopped OffTheKernel 4 0 0)
    × (dispatch_of 1 (pack_of 0x0000700F) 0 1 1 (replicate 64 0) ≡ record { ran = Ok tt; window = replicate 64 0 })
unfolding dispatch_of threads_of thread_more if_done thread_of shown ran_of run_of steps_of step_more if_running running step_of stops ends_thread started start_registers executed decoded op_of immediate_row system_row effect_of alu_of applied goes_on advanced moved_to written with_scalar scalar_of kernel_of kernel_count first_word kernel_words after half_at word_at bytes_of_words
least = (refl, refl, refl)

-- dispatches that stop elsewhere than at the first word, and a store across the window's end
elsewhere : (dispatch_of 5 (pack_of 0x02502F0D) 0 1 1 (replicate 64 0) ≡ stopped (OutsideTheWindow 64) 0 0 0)
    × (dispatch_of 5 (pack_of_words (0x0010828B ∷ 0x0022828B ∷ 0x00229297 ∷ 0x0202A50D ∷ 0x0000700F ∷ [])) 0 3 2 (replicate 64 0) ≡ stopped (OutsideTheWindow 64) 12 2 1)
    × (dispatch_of 5 (pack_of_words (0xFFF00297 ∷ 0x0000020E ∷ [])) 0 1 1 (replicate 64 0) ≡ stopped OffTheKernel 4 0 0)
    × (dispatch_of 5 (pack_of_words (0xFFF00297 ∷ 0xFFFFFFFF ∷ [])) 0 1 1 (replicate 64 0) ≡ stopped NotListed 4 0 0)
unfolding dispatch_of threads_of thread_more if_done thread_of shown ran_of run_of steps_of step_more if_running running step_of stops goes_on ends_thread lands branched after_store started start_registers executed decoded op_of scalar_row plain_row immediate_row listed width_by store_row cond_by branch_row system_row effect_of branch_effect holds_of alu_of applied advanced moved_to written with_scalar scalar_of kernel_of kernel_count first_word kernel_words after half_at word_at reach_of first_outside if_inside store_of with_value with_word bytes_of_words
elsewhere = (refl, refl, refl, refl)

-- all at once, since they open the same definitions
worked : Table × LeastLimit × WhereStopped × Scrolled × RoundTheWrap × ReadyNoLonger
unfolding RoundTheWrap ReadyNoLonger first_outside bytes_of_words values_of colored fresh_device ring_of slot_of with_ring with_slots plus_one_at with_marker with_counts counted balanced window_fits memory_fits windows_fit ring_sound limit_fits state_sound ring_fits rings_fit verdict_of ready_with ready_where ready_at next_ring seek bytes_of_ring pick_of unchanged emit_to ring_after device_after report_of finished served_of picked_of judged_of verdict_on turn_of opcode_of row_of wait_size payload_size target_at command_at is_whole unknown_opcode wrong_payload_bit no_such_slot header_fault frame_misaligned frame_unfit frame_fault held_fault is_rectangle size_of width_of height_of too_narrow end_of slot_fault misaligned unframed outside unfit_frame out_of_range unfit_dispatch check_of emits interrupts words_read leaves stop_outcome ran_outcome ran_as site_of dispatched_by after_dispatch held_by work_by work_of or_else fault_of guarded performed_of after half_at word_at with_byte with_half with_word rectangle_end words_put pixels_put filled copied blitted window_of put_back kernel_count first_word kernel_words code_count lies_in_code all_below sound_pack kernel_of
worked = (
  record {
    p1 = ((refl, refl), refl);
    p2 = (refl, refl);
    p3 = (refl, refl);
    p4 = (kernel.p4).1;
    p5 = (kernel.p5).1;
    p6 = kernel.p6;
    p7 = (kernel.p7).1;
    p8 = (
      λ limit groups threads window hl hg ht small. let run = kernel.p8 limit groups threads window hl hg ht small in record { outcome = rw run; kept = rw run },
      negative,
      let run = kernel.p8 default_limit 1 1 (replicate 64 0) (omega arith) (omega arith) (omega arith) (omega arith) in (refl, rw run),
    );
    p9 = (
      λ limit groups threads window hg ht. let run = kernel.p9 limit groups threads window hg ht in record { outcome = rw run; kept = rw run },
      spins,
    );
    p10 = vadd;
    p11 = (record { served = refl; ring = refl }, record { served = refl; ring = refl }, record { served = refl; ring = refl }, record { served = refl; ring = refl });
    p12 = (refl, refl);
  },
  record {
    one = (refl, rw least.0);
    two = (refl, rw least.1);
    wfi = (refl, rw least.2);
  },
  record {
    across = (refl, rw elsewhere.0);
    last = (refl, rw elsewhere.1);
    branch = (refl, rw elsewhere.2);
    unlisted = (refl, rw elsewhere.3);
  },
  record {
    down = ((refl, refl), refl);
    right = ((refl, refl), refl);
    both = ((refl, refl), refl);
    across = ((refl, refl), refl);
    words = ((refl, refl), refl);
  },
  ((refl, refl), (refl, refl), (refl, refl), (refl, refl), (refl, refl)),
  (refl, (refl, refl), (refl, refl)),
)
  where
    -- the address of a store at -4 from s0 is its own
    negative : (limit groups threads : ℕ) (window : List ℕ) → 1 ≤ limit → 1 ≤ groups → 1 ≤ threads → length window ≤ 4294967292
        → site_of (dispatch_of limit (pack_of 0xFE502E0D) 0 groups threads window).ran ≡ site_at 4294967292 0 0 0
    negative limit groups threads window hl hg ht past =
        let run = kernel.p8 limit groups threads window hl hg ht (omega arith) in
        rw (run, first_is_own (length window) 4294967292 past)

    -- a branch to itself as a whole turn
    spins : (limit : ℕ) → 1 ≤ limit → limit ≤ 65536 → StopOn0 14 (site_at 0 0 0 0) (turn_of (framed_under limit 64 0) (one_thread 0x0000000E))
    spins limit low high =
        let run = kernel.p9 limit 1 1 (replicate 64 0) (omega arith) (omega arith) in
        (rw (le-leb 1 limit low, le-leb limit 65536 high), rw (le-leb 1 limit low, le-leb limit 65536 high, run))

pub table : Table
table = worked.0

pub least-limit : LeastLimit
least-limit = worked.1

pub where_stopped : WhereStopped
where_stopped = worked.2

pub scrolled : Scrolled
scrolled = worked.3

pub round_the_wrap : RoundTheWrap
round_the_wrap = worked.4

pub ready_no_longer : ReadyNoLonger
ready_no_longer = worked.5
