use mathlib.Core.Path.{◌≡◌}
use mathlib.Core.List.{List, ◌++◌}
use Prim.Native.Nat.{ℕ}
use lib.ListN.{length, drop}
use native.Mathlib.Omega.{arith}
use borrow.Author.Rules.{rules}
use borrow.Author.Tests.{eq-eqb}
use Rattle.std.proofs.lemmas.List.{drop_all, append-nil}
use Rattle.capi.specs.Image.{image_length}
use Rattle.capi.specs.Report.{report_length}
use Rattle.capi.specs.Calls.{turn_call, called_of}
use Rattle.capi.proofs.calls.turn_call.Goals as goal

-- a report's bytes are written over its front, and no byte lies behind it
no_rest : {front written : List ℕ} (bytes : List ℕ) → front ≡ written → length bytes ≡ report_length → front ++ drop report_length bytes ≡ written
no_rest bytes same whole = rw (drop_all report_length bytes (omega (arith, whole)), append-nil) same

pub returns : goal.returns
unfolding turn_call called_of
returns c =
    let image : length c.args.image.now ≡ image_length = search rules in
    let report : length c.args.report.now ≡ report_length = search rules in
    rw (eq-eqb _ _ image, eq-eqb _ _ report) (search (rules, report, no_rest))
