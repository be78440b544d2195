use Rattle.std.proofs.Common.{arith, refl}
use Rattle.replay.proofs.TextLaws.{put-appended}
use Rattle.replay.proofs.text.append.Goals as goal

pub returns : goal.returns
returns c = put-appended c.args.bytes.now c.args.text.now _ _ _ _ c.copy_from_slice.ensures.after (omega arith) refl (omega arith)
