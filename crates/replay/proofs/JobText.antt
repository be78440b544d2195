-- Laws of what an input prints, by the way that it is taken apart and its device is made.
-- Assumes nothing.
use mathlib.Core.Path.{◌≡◌}
use mathlib.Core.List.{List, [], ◌∷◌}
use Prim.Native.Nat.{ℕ}
use lib.ListN.{length}
use Rattle.device.specs.declared.fresh.Fresh.{Fresh}
use Rattle.state.specs.declared.refusal.Refusal.{Refusal}
use Rattle.state.specs.Refusal.{refusal_number}
use Rattle.device.specs.Fresh.{fresh_of}
use Rattle.device.specs.Turn.{call_of}
use Rattle.std.specs.Prelude.{Ok, Err}
use Rattle.job.specs.declared.fault.Fault.{Fault}
use Rattle.job.specs.Fault.{fault_number}
use Rattle.job.specs.declared.parts.Job.{Job}
use Rattle.job.specs.Parts.{bytes_of}
use Rattle.job.specs.Parse.{parts_of}
use Rattle.spelling.specs.Line.{refused_line}
use Rattle.replay.specs.Transcript.{all_lines, empty_pipe, first_call, fresh_for, played_on, job_text, parsed_text, transcript_of}

module _ (input : List ℕ) where
  pub accepted_text : {job : Job} → parts_of input ≡ Ok job → transcript_of input ≡ job_text input job
  unfolding transcript_of parsed_text
  accepted_text e = rw e

  pub refused_text : {fault : Fault} → parts_of input ≡ Err fault → transcript_of input ≡ refused_line (fault_number fault)
  unfolding transcript_of parsed_text
  refused_text e = rw e

  module _ (job : Job) where
    -- a call of the job's bytes is the first one
    pub first_call_lem : {memory r0 r1 r2 r3 pack : List ℕ} → memory ≡ bytes_of input job.memory
        → r0 ≡ bytes_of input job.ring0 → r1 ≡ bytes_of input job.ring1 → r2 ≡ bytes_of input job.ring2 → r3 ≡ bytes_of input job.ring3
        → pack ≡ bytes_of input job.pack → call_of memory r0 r1 r2 r3 pack empty_pipe ≡ first_call input job
    unfolding first_call
    first_call_lem e e0 e1 e2 e3 ep = rw (e, e0, e1, e2, e3, ep)

    -- a device made with the job's windows is the one for it
    pub fresh_for_lem : {made : Fresh} {words : List ℕ} → made ≡ fresh_of (length words) (job.window0 ∷ job.window1 ∷ job.window2 ∷ job.window3 ∷ [])
        → words ≡ bytes_of input job.memory → made ≡ fresh_for input job
    unfolding fresh_for
    fresh_for_lem e ew = rw (e, ew)

    module _ {made : Fresh} (same : made ≡ fresh_for input job) where
      pub made_text : made.answer ≡ Ok tt → job_text input job ≡ all_lines 0 made.device (first_call input job)
      unfolding job_text played_on
      made_text e = rw (← same, e)

      pub unmade_text : {why : Refusal} → made.answer ≡ Err why → job_text input job ≡ refused_line (refusal_number why)
      unfolding job_text played_on
      unmade_text e = rw (← same, e)
