-- The rings have few bytes, since the call of the job's bytes is the first one.
use Rattle.std.proofs.Common.{◌∙◌}
use Rattle.replay.proofs.Fits.{few_untaken}
use Rattle.replay.proofs.JobText.{first_call_lem}
use Rattle.replay.proofs.play.play_on.Goals as goal

pub play_turns-requires : goal.play_turns-requires
play_turns-requires c =
    let same = first_call_lem c.args.input.now c.args.job (c.copy_from_slice.ensures.after ∙ c.bytes_of-words.ensures) c.bytes_of.ensures c.bytes_of-2.ensures c.bytes_of-3.ensures c.bytes_of-4.ensures c.bytes_of-pack.ensures in
    (c.requires.0, rw same (few_untaken _ _ _ c.requires.1), c.requires.2)
