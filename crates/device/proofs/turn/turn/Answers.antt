use mathlib.Core.Path.{sym, ◌∙◌}
use Rattle.device.proofs.Verdicts.{steady, servable}
use Rattle.device.proofs.turn.turn.Goals as goal

pub pick-requires : goal.pick-requires
pick-requires c = steady _ _ _ _ _ _ _ _ (sym c.judge-verdict.ensures ∙ c.in_default.is)

pub serve-requires : goal.serve-requires
serve-requires c = rw c.ring.ensures (servable _ _ _ _ _ _ _ _ (sym c.judge-verdict.ensures ∙ c.in_default.is) _ (sym c.pick.ensures ∙ c.in-Some.is))
