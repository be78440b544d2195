-- Between two turns a job is in play; each served turn takes bytes of a ring.
use Rattle.std.proofs.Common.{length, []}
use Rattle.device.specs.Turn.{ring_in, call_of}
use Rattle.device.specs.Untaken.{untaken_in}
use Rattle.replay.specs.Transcript.{empty_pipe}
use Rattle.replay.proofs.InPlay.{In-play}
use Rattle.replay.proofs.play.play_turns.Given as goal

abbrev pub invariant-loop-report : goal.invariant-loop-report
invariant-loop-report l =
    In-play l.initial.d (call_of l.initial.memory l.rings.ring0.now l.rings.ring1.now l.rings.ring2.now l.rings.ring3.now l.pack empty_pipe) (length l.initial.memory) l.initial.text.bytes
    l.d (call_of l.memory l.rings.ring0.now l.rings.ring1.now l.rings.ring2.now l.rings.ring3.now l.pack l.pipe) l.text.bytes l.turns l.text.size

abbrev pub decreases-loop-report : goal.decreases-loop-report
decreases-loop-report l = untaken_in (ring_in (call_of [] l.rings.ring0.now l.rings.ring1.now l.rings.ring2.now l.rings.ring3.now [] [])) l.d
