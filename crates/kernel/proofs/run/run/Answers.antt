use mathlib.Core.Path.{◌∙◌}
use native.Mathlib.Omega.{arith}
use Rattle.kernel.proofs.Runs.{no_step, one-step_more, still-running, run_shows, run_runs_out, ended_rests, stopped_rests}
use Rattle.kernel.proofs.run.run.Goals as goal

pub loop-init : goal.loop-init
loop-init c = no_step _ _ _ _ _

pub returns-in-Ended : goal.returns-in-Ended
returns-in-Ended c = run_shows _ _ _ _ _ _ _ _ _ _ (omega arith) c.loop.invariant c.step-next.ensures (ended_rests c.in-Ended.is)

pub returns-in-Stopped : goal.returns-in-Stopped
returns-in-Stopped c = run_shows _ _ _ _ _ _ _ _ _ _ (omega arith) c.loop.invariant c.step-next.ensures (stopped_rests c.in-Stopped.is)

pub loop-preserved : goal.loop-preserved
loop-preserved c = one-step_more _ _ _ _ _ _ _ _ c.loop.invariant ∙ still-running _ _ _ c.step-next.ensures c.in-Running.is

pub returns-in-Running : goal.returns-in-Running
returns-in-Running c =
    run_runs_out _ _ _ _ _ _ _ _ (omega arith)
    (one-step_more _ _ _ _ _ _ _ _ c.loop.invariant ∙ still-running _ _ _ c.step-next.ensures c.in-Running.is)
