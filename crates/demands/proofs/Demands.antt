-- The demands hold: each statement of specs/, with nothing left to assume.
use Rattle.demands.specs.FourTurns.{FourTurns, FourTurnsByHead, FreshFourTurns}
use Rattle.demands.specs.Keeps.{TurnKeeps}
use Rattle.demands.specs.Makings.{FreshMakes}
use Rattle.demands.specs.Sound.{TurnStaysSound, TurnLeavesSound, SoundRefusals, FreshMakesSound, CallsStaySound, FreshStaysSound}
use Rattle.demands.specs.Reports.{TurnReports}
use Rattle.demands.specs.Editions.{TurnEditions}
use Rattle.demands.specs.Counting.{TurnCounts}
use Rattle.demands.specs.Counts.{CallsCount, FreshCounts}
use Rattle.demands.specs.Bounded.{TurnsBounded, IdleInTime, FreshIdleInTime}
use Rattle.demands.specs.Targets.{NearByDifference, NothingAsked}
use Rattle.demands.specs.Idle.{IdleIsDone}
use Rattle.demands.specs.EachStep.{EachStep}
use Rattle.demands.specs.OneAnswer.{OneAnswer}
use Rattle.demands.specs.Stops.{OneStop}
use Rattle.demands.specs.Table.{Table, LeastLimit, WhereStopped, Scrolled, RoundTheWrap, ReadyNoLonger}
use Rattle.demands.proofs.FourTurns as four
use Rattle.demands.proofs.Rising as rising
use Rattle.demands.proofs.Keeps as keeps
use Rattle.demands.proofs.Makings as makings
use Rattle.demands.proofs.Sound as sound
use Rattle.demands.proofs.Reports as reports
use Rattle.demands.proofs.Editions as editions
use Rattle.demands.proofs.Counting as counting
use Rattle.demands.proofs.Counts as counts
use Rattle.demands.proofs.Bounded as bounded
use Rattle.demands.proofs.Idle as idle
use Rattle.demands.proofs.EachStep as steps
use Rattle.demands.proofs.Stops as stops
use Rattle.demands.proofs.OneAnswer as one
use Rattle.demands.proofs.Table as worked

-- demand 1: what a turn leaves as it was
pub turn-keeps : TurnKeeps
turn-keeps = keeps.turn-keeps

-- demand 1: what making a device gives
pub fresh_makes : FreshMakes
fresh_makes = makings.fresh_makes

-- demand 1: a device stays sound, so a call on its own memory is refused only for what it lends
pub turn_stays_sound : TurnStaysSound
turn_stays_sound = sound.turn_stays_sound

pub turn-leaves_sound : TurnLeavesSound
turn-leaves_sound = sound.turn-leaves_sound

pub sound_refusals : SoundRefusals
sound_refusals = sound.sound_refusals

pub fresh_makes_sound : FreshMakesSound
fresh_makes_sound = sound.fresh_makes_sound

pub calls_stay_sound : CallsStaySound
calls_stay_sound = sound.calls_stay_sound

pub fresh_stays_sound : FreshStaysSound
fresh_stays_sound = sound.fresh_stays_sound

-- demand 2: what is reported, and what changes in the device
pub turn-reports : TurnReports
turn-reports = reports.turn-reports

-- demand 2: what the editions differ in
pub turn-editions : TurnEditions
turn-editions = editions.turn-editions

-- demand 2: what is counted, on any turn, over any calls, and from fresh over unchanging rings
pub turn-counts : TurnCounts
turn-counts = counting.turn-counts

pub calls_count : CallsCount
calls_count = counts.calls_count

pub fresh-counts : FreshCounts
fresh-counts = counts.fresh-counts

-- demand 2, down to each step of each thread
pub each_step : EachStep
each_step = steps.each_step

-- and no second stop can be told of a dispatch
pub one-stop : OneStop
one-stop = stops.one-stop

-- demand 3: a ready ring is served within four turns, in edition 1 from any state, and in either from fresh
pub four_turns : FourTurns
four_turns = four.four_turns

pub four_turns_by_head : FourTurnsByHead
four_turns_by_head = four.four_turns_by_head

pub fresh_four_turns : FreshFourTurns
fresh_four_turns = four.fresh_four_turns

-- what is asked of the targets in edition 2 is a bound on a difference, and in edition 1 nothing
pub near_by_difference : NearByDifference
near_by_difference = rising.near_by_difference

pub nothing_asked : NothingAsked
nothing_asked = rising.nothing_asked

-- demand 3: turns over unchanging rings come to an end, and when the answer is idle no order of starts gets further
pub turns_bounded : TurnsBounded
turns_bounded = bounded.turns_bounded

pub idle_in_time : IdleInTime
idle_in_time = bounded.idle_in_time

pub fresh-idle_in_time : FreshIdleInTime
fresh-idle_in_time = bounded.fresh-idle_in_time

pub idle-is_done : IdleIsDone
idle-is_done = idle.idle-is_done

-- no second answer meets a contract
pub one_answer : OneAnswer
one_answer = one.one_answer

-- the examples worked by hand, P1 to P12
pub table : Table
table = worked.table

-- and the least limit, where a thread stops, a frame that is scrolled, and the wrap beside them
pub least-limit : LeastLimit
least-limit = worked.least-limit

pub where_stopped : WhereStopped
where_stopped = worked.where_stopped

pub scrolled : Scrolled
scrolled = worked.scrolled

pub round_the_wrap : RoundTheWrap
round_the_wrap = worked.round_the_wrap

pub ready_no_longer : ReadyNoLonger
ready_no_longer = worked.ready_no_longer
