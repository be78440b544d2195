use mathlib.Core.Path.{◌≡◌}
use borrow.Author.Rules.{rules}
use Rattle.std.specs.Prelude.{Err}
use native.Mathlib.Omega.{arith}
use Rattle.kernel.specs.Dispatch.{dispatch_of}
use Rattle.kernel.proofs.Dispatches.{no_thread, still-going, stop_stays}
use Rattle.kernel.proofs.dispatch.dispatch.Goals as goal

pub loop-i-init : goal.loop-i-init
loop-i-init c = no_thread _ _ _ _ _ _

pub returns-in_err-run_thread : goal.returns-in_err-run_thread
unfolding dispatch_of
returns-in_err-run_thread c =
    let same : c.from_residual.result ≡ Err c.in_err-run_thread.field-0.0 = search rules in
    rw (same, ← c.kernel_at-kernel.ensures)
    (stop_stays _ _ _ _ _ _ _ _ _ _ _ _ (omega arith) c.loop-i.invariant c.run_thread.ensures c.in_err-run_thread.was)

pub loop-i-preserved : goal.loop-i-preserved
loop-i-preserved c = still-going _ _ _ _ _ _ _ _ _ _ c.loop-i.invariant c.run_thread.ensures c.in_ok-run_thread.was
