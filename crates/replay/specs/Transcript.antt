-- The whole text that the replay job prints.
use Rattle.std.specs.Prelude.{ℕ, zero, suc, ◌+◌, ◌<◌, ◌≡◌, List, [], ◌∷◌, ◌++◌, length, replicate, Result, Ok, Err}
use Rattle.state.specs.declared.device.Device.{Device}
use Rattle.state.specs.declared.refusal.Refusal.{Refusal}
use Rattle.device.specs.declared.fresh.Fresh.{Fresh}
use Rattle.device.specs.declared.turn.Answer.{Answer}
use Rattle.device.specs.declared.turn.Answer.TheVariants.{Served, Idle, Refused as RefusedTurn}
use Rattle.device.specs.declared.turn.Report.{Report}
use Rattle.state.specs.Device.{Shaped}
use Rattle.device.specs.Answer.{answer_number, making_number, report_values}
use Rattle.device.specs.Fresh.{fresh_of}
use Rattle.device.specs.Turn.{Call, ring_in, call_of, TurnEnd, turn_of}
use Rattle.device.specs.Untaken.{untaken_in}
use Rattle.job.specs.declared.fault.Fault.{Fault}
use Rattle.job.specs.declared.parts.Job.{Job}
use Rattle.job.specs.Parts.{bytes_of}
use Rattle.job.specs.Fault.{fault_number}
use Rattle.job.specs.Parse.{parts_of}
use Rattle.spelling.specs.Line.{turn_line, idle_line, refused_line}

-- the line of a served turn: turn, ring, outcome, fence, words read
abbrev pub served_line : ℕ → Report → List ℕ
served_line turn report =
    let v = report_values report in
    turn_line turn v.ring v.outcome v.fence v.words

-- the lines from an answer on: a served turn's line and then the rest, or the last line; `turns` were taken before
unfoldable pub lines_of : ℕ → Answer → List ℕ → List ℕ
lines_of turns (Served report) rest = served_line (turns + 1) report ++ rest
lines_of turns Idle rest = idle_line turns
lines_of turns (RefusedTurn why) rest = refused_line (answer_number (RefusedTurn why))

-- the next call: the same rings and pack, and the memory and pipe that the turn leaves
abbrev pub next_call : Call → TurnEnd → Call
next_call call end =
    call_of end.memory call.ring0 call.ring1 call.ring2 call.ring3 call.pack end.pipe

-- the lines of at most so many turns
unfoldable pub lines_from : ℕ → ℕ → Device → Call → List ℕ
lines_from zero turns d call = []
lines_from (suc most) turns d call =
    let end = turn_of d call in
    lines_of turns end.turned.answer (lines_from most (turns + 1) end.turned.device (next_call call end))

-- the lines of all turns: each served turn takes bytes of a ring, so there are no more turns than one more than the untaken bytes
unfoldable pub all_lines : ℕ → Device → Call → List ℕ
all_lines turns d call = lines_from (suc (untaken_in (ring_in call) d)) turns d call

-- and that is no cap: any larger number gives the same lines
abbrev pub EnoughTurns : Type 0
EnoughTurns = (most turns : ℕ) (d : Device) (call : Call) → Shaped d → untaken_in (ring_in call) d < most → lines_from most turns d call ≡ all_lines turns d call

-- 1,020 zeros
unfoldable pub empty_pipe : List ℕ
empty_pipe = replicate 1020 0

-- the job's first call
unfoldable pub first_call : List ℕ → Job → Call
first_call input job =
    call_of (bytes_of input job.memory)
    (bytes_of input job.ring0) (bytes_of input job.ring1) (bytes_of input job.ring2) (bytes_of input job.ring3)
    (bytes_of input job.pack) empty_pipe

-- the making of a fresh device with the job's windows, no limit and no start named: so of edition 1
unfoldable pub fresh_for : List ℕ → Job → Fresh
fresh_for input job =
    fresh_of (length (bytes_of input job.memory))
    (job.window0 ∷ job.window1 ∷ job.window2 ∷ job.window3 ∷ [])

-- a fresh device takes all its turns; if it cannot be made, the number of that refusal, 101, is printed
unfoldable pub played_on : Result Unit Refusal → Device → Call → List ℕ
played_on (Ok made) d call = all_lines 0 d call
played_on (Err why) d call = refused_line (making_number (Err why))

-- what an accepted job prints
unfoldable pub job_text : List ℕ → Job → List ℕ
job_text input job = played_on (fresh_for input job).answer (fresh_for input job).device (first_call input job)

-- what an input prints once it is taken apart
unfoldable pub parsed_text : List ℕ → Result Job Fault → List ℕ
parsed_text input (Ok job) = job_text input job
parsed_text input (Err fault) = refused_line (fault_number fault)

-- what an input prints
unfoldable pub transcript_of : List ℕ → List ℕ
transcript_of input = parsed_text input (parts_of input)
