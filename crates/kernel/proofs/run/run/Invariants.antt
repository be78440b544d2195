use mathlib.Core.Path.{◌≡◌}
use Rattle.kernel.specs.Run.{running, steps_of}
use Rattle.kernel.proofs.run.run.Given as goal

abbrev pub invariant-loop : goal.invariant-loop
invariant-loop l = steps_of l.counter l.limit l.pack l.kernel l.initial.at l.initial.window ≡ running l.at l.window
