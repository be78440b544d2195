-- The whole job of docs/DEVICE.md, by computation.
-- Assumes nothing.
use Rattle.job.specs.WholeCase.{whole_case}
use Rattle.job.specs.Parts.{bytes_of}
use Rattle.spelling.specs.Decimal.{digits, decimal}
use Rattle.spelling.specs.Line.{line_of, turn_line, idle_line}
use Rattle.job.proofs.WholeCase.{its_parts}
use Rattle.state.specs.Device.{fresh_device, ring_of, slot_of, with_ring, with_slots, with_marker, with_counts}
use Rattle.state.specs.PlusOne.{plus_one_at}
use Rattle.state.specs.Counts.{counted, balanced}
use Rattle.state.specs.Refusal.{window_fits, memory_fits, windows_fit, ring_sound, limit_fits, state_sound, ring_fits, rings_fit, verdict_of}
use Rattle.state.specs.Ready.{ready_with, ready_where, ready_at, next_ring, seek, bytes_of_ring, pick_of}
use Rattle.device.specs.Untaken.{untaken_of, sum_of, untaken_in}
use Rattle.device.specs.Fresh.{fresh_with}
use Rattle.device.specs.Answer.{values_of}
use Rattle.device.specs.Turn.{unchanged, emit_to, ring_after, device_after, report_of, finished, served_of, picked_of, judged_of, verdict_on, turn_of}
use Rattle.command.specs.Opcode.{opcode_of}
use Rattle.command.specs.Table.{row_of}
use Rattle.command.specs.Header.{wait_size, payload_size, target_at, command_at, is_whole}
use Rattle.command.specs.Faults.{unknown_opcode, wrong_payload_bit, no_such_slot, header_fault}
use Rattle.command.specs.Frame.{held_fault}
use Rattle.work.specs.Shape.{is_rectangle}
use Rattle.work.specs.Checks.{slot_fault, misaligned, unframed, outside, unfit_frame, unfit_dispatch, check_of}
use Rattle.command.specs.Report.{emits, words_read}
use Rattle.work.specs.Work.{leaves, work_by, work_of}
use Rattle.work.specs.Perform.{or_else, fault_of, guarded, performed_of}
use Rattle.memory.specs.Place.{word_at}
use Rattle.memory.specs.Window.{window_of, put_back}
use Rattle.pack.specs.Kernels.{kernel_count, code_count, sound_pack}
use Rattle.replay.specs.Transcript.{lines_of, lines_from, all_lines, empty_pipe, first_call, fresh_for, played_on, job_text}
use Rattle.replay.specs.WholeCase.{WholeCase}
use Rattle.replay.proofs.JobText.{accepted_text}
use Rattle.words.specs.Choice.{all_below}

pub whole_case_lem : WholeCase
unfolding whole_case bytes_of digits decimal line_of turn_line idle_line fresh_device ring_of slot_of with_ring with_slots plus_one_at with_marker with_counts counted balanced window_fits memory_fits windows_fit ring_sound limit_fits state_sound ring_fits rings_fit verdict_of ready_with ready_where ready_at next_ring seek bytes_of_ring pick_of untaken_of sum_of untaken_in fresh_with values_of unchanged emit_to ring_after device_after report_of finished served_of picked_of judged_of verdict_on turn_of opcode_of row_of wait_size payload_size target_at command_at is_whole unknown_opcode wrong_payload_bit no_such_slot header_fault held_fault is_rectangle slot_fault misaligned unframed outside unfit_frame unfit_dispatch check_of emits words_read leaves work_by work_of or_else fault_of guarded performed_of word_at window_of put_back kernel_count code_count all_below sound_pack lines_of lines_from all_lines empty_pipe first_call fresh_for played_on job_text
whole_case_lem = rw (accepted_text whole_case its_parts)
