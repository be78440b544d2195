use Rattle.recorded.proofs.Turns.{made}
use Rattle.recorded.proofs.turn.compare_answer.Goals as goal

pub returns : goal.returns
returns c = made c.requires c.turn_call-status.ensures _ c.is_recorded.ensures
