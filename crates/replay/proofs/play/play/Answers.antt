-- If no device can be made for the job, the line of that refusal is the text.
use Rattle.std.proofs.Common.{arith}
use Rattle.replay.proofs.TextLaws.{alone}
use Rattle.replay.proofs.JobText.{fresh_for_lem, unmade_text}
use Rattle.replay.proofs.play.play.Goals as goal

pub returns-in-Err : goal.returns-in-Err
returns-in-Err c =
    let same = fresh_for_lem c.args.input.now c.args.job c.make-made.ensures c.bytes_of-words.ensures in
    let a = c.append_refused in
    rw (unmade_text c.args.input.now c.args.job same c.in-Err.is, ← c.into.ensures) (alone c.requires.1 a.ensures.appended a.ensures.upper_bound (omega (arith, a.new.self.room)))
