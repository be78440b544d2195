use lib.ListN.{length}
use mathlib.Core.Path.{◌∙◌, ap, sym}
use Rattle.command.specs.Outcome.{is_done}
use Rattle.work.proofs.Faultless.{payload_as_in_table, framed_and_inside, header_done, check_done}
use Rattle.work.proofs.perform.perform.Goals as goal

pub work-requires : goal.work-requires
work-requires c =
    let a = c.args in
    let lent = c.requires in
    let fine = ap is_done (sym c.fault.ensures ∙ c.in-Ok.is) in
    let checked = framed_and_inside a.command (length a.window.now) a.frame a.pack.now (check_done a.command a.full (length a.window.now) a.frame a.pack.now fine) in
    let payload = payload_as_in_table a.command (header_done a.command a.full (length a.window.now) a.frame a.pack.now fine) in (
      checked.0,
      checked.1,
      (λ set. lent.payload (payload ∙ set)),
      lent.room,
    )
