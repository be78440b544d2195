-- A turn goes on, or ends the text.
use Rattle.std.proofs.Common.{arith}
use Rattle.device.specs.Untaken.{untaken_in}
use Rattle.replay.specs.Transcript.{empty_pipe}
use Rattle.replay.proofs.InPlay.{starts, ends-idle, ends-refused, falls, goes_on}
use Rattle.replay.proofs.play.play_turns.Goals as goal

pub loop-report-init : goal.loop-report-init
unfolding empty_pipe
loop-report-init c = starts _ _ _ _ (omega arith) c.requires.0 c.requires.1 c.requires.2

pub returns-in-Idle : goal.returns-in-Idle
returns-in-Idle c =
    let t = c.append_idle in
    ends-idle c.loop-report.invariant c.turn-turned.ensures c.in-Idle.is t.ensures.appended t.ensures.upper_bound (omega (arith, t.new.self.room))

pub returns-in-Refused : goal.returns-in-Refused
returns-in-Refused c =
    let t = c.append_refused in
    ends-refused c.loop-report.invariant c.turn-turned.ensures _ c.in-Refused.is (rw c.into.ensures at t.ensures.appended) t.ensures.upper_bound (omega (arith, t.new.self.room))

pub loop-report-smaller : goal.loop-report-smaller
unfolding untaken_in
loop-report-smaller c = omega (arith, falls c.loop-report.invariant c.turn-turned.ensures _ c.in-Served.is)

pub loop-report-preserved : goal.loop-report-preserved
loop-report-preserved c =
    let t = c.append_turn in
    goes_on c.loop-report.invariant c.turn-turned.ensures _ c.in-Served.is t.ensures.appended t.ensures.upper_bound c.turn-turned.auto.mem c.turn-turned.auto.pipe
