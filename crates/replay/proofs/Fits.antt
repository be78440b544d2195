-- The memory words of an accepted input are at most 4,096, and the bytes of its rings at most 61,440.
-- Assumes nothing.
use mathlib.Core.Path.{◌≡◌}
use mathlib.Core.List.{List}
use Prim.Native.Nat.{ℕ, ◌+◌, ◌-◌, ◌≤◌}
use native.Mathlib.Omega.{arith}
use lib.ListN.{length, take, length-take}
use lib.Seq.{length-take-le}
use Rattle.std.specs.Prelude.{Ok}
use Rattle.job.specs.declared.parts.Job.{Job}
use Rattle.job.specs.declared.parts.Part.{Part}
use Rattle.job.specs.Parse.{parts_of}
use Rattle.job.specs.Parts.{bytes_of, job_of}
use Rattle.job.specs.Section.{section_at}
use Rattle.job.specs.Sections.{sections_of, ring0_of, ring1_of, ring2_of, ring3_of, memory_of}
use Rattle.job.proofs.Accepted.{checked}
use Rattle.memory.specs.Window.{window_of}
use Rattle.state.specs.declared.device.Device.{Device}
use Rattle.state.specs.Ready.{bytes_of_ring}
use Rattle.device.specs.Turn.{Call, ring_in}
use Rattle.device.specs.Untaken.{untaken_of, sum_of, untaken_in}
use Rattle.replay.specs.Transcript.{first_call}

pub memory_fits : (input : List ℕ) (job : Job) → parts_of input ≡ Ok job → length (bytes_of input job.memory) ≤ 16384
unfolding bytes_of job_of window_of sections_of memory_of section_at
memory_fits input job e =
    let k = checked input job e in
    let few = k.0.memory in
    rw k.1 (simp (length-take) (omega (arith, few)))

pub memory_short : (input : List ℕ) (job : Job) {words : List ℕ} → words ≡ bytes_of input job.memory → parts_of input ≡ Ok job → length words ≤ 16384
memory_short input job same e = rw same (memory_fits input job e)

-- so as much of a room as they fill is as long as they are
pub as_much : (input : List ℕ) (job : Job) (words room : List ℕ) → words ≡ bytes_of input job.memory → parts_of input ≡ Ok job → 65536 ≡ length room → length (take (length words) room) ≡ length words
as_much input job words room same e long = length-take-le (length words) room (omega (arith, memory_short input job same e))

-- no more bytes are untaken than the rings have
untaken_most : (d : Device) (call : Call) → untaken_in (ring_in call) d ≤ length call.ring0 + length call.ring1 + length call.ring2 + length call.ring3
unfolding untaken_in sum_of untaken_of bytes_of_ring
untaken_most d call = omega arith

-- a part has no more bytes than its bounds say
part_most : (input : List ℕ) (part : Part) → length (bytes_of input part) ≤ part.end - part.start
unfolding bytes_of window_of
part_most input part = simp length-take (omega arith)

-- the rings stand one after the other in the input
pub few_untaken : (d : Device) (input : List ℕ) (job : Job) → parts_of input ≡ Ok job → untaken_in (ring_in (first_call input job)) d ≤ 61440
unfolding first_call job_of sections_of ring0_of ring1_of ring2_of ring3_of section_at
few_untaken d input job e =
    let k = checked input job e in
    let s = sections_of input in
    let most = untaken_most d (first_call input (job_of input s)) in
    let m0 = part_most input (job_of input s).ring0 in
    let m1 = part_most input (job_of input s).ring1 in
    let m2 = part_most input (job_of input s).ring2 in
    let m3 = part_most input (job_of input s).ring3 in
    rw k.1 (omega (arith, most, m0, m1, m2, m3, k.0.ring3, k.0.short))
