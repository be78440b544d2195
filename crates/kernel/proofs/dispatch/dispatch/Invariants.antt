use mathlib.Core.Path.{◌≡◌}
use Rattle.kernel.specs.Dispatch.{going, threads_of}
use Rattle.kernel.proofs.dispatch.dispatch.Given as goal

abbrev pub invariant-loop-i : goal.invariant-loop-i
invariant-loop-i l = threads_of l.i l.limit l.pack l.kernel l.grid.groups l.grid.threads l.initial.window ≡ going l.window
