use Rattle.device.proofs.Windows.{lent-window, lent_back}
use Rattle.command.proofs.Sizes.{payload-inside}
use Rattle.command.proofs.Sizes.{whole-inside}
use native.Mathlib.Omega.{arith}
use Rattle.device.specs.Turn.{finished, served_of}
use Rattle.device.proofs.turn.serve.Goals as goal

pub perform-done-requires : goal.perform-done-requires
perform-done-requires c =
    let s = c in
    record {
      payload = rw (c.command_at-command.ensures, c.ring-at.ensures) (payload-inside _ _ s.requires.whole);
      room = s.requires.room;
    }

pub device_after-requires : goal.device_after-requires
device_after-requires c =
    let s = c in (
      s.requires.number,
      rw (c.command_at-command.ensures, c.ring-at.ensures)
          (omega (arith, whole-inside _ _ s.requires.whole, s.requires.short)),
    )

pub returns : goal.returns
unfolding finished served_of
returns c =
    let s = c in
    let start = c.ring-at.result.window.start in
    let n = c.ring-at.result.window.length in
    let m = s.args.mem.now in
    let p = c.perform-done in
    rw (← c.ring-at.ensures, ← c.command_at-command.ensures, ← c.slot.ensures, ← c.is_full-full.ensures, ← lent-window start n m)
    (record {
      answer = rw (c.device_after.ensures, c.report_of.ensures, p.ensures.answer);
      memory = rw (← p.ensures.window) (lent_back start n m (rw c.ring-at.ensures s.requires.fits) p.new.window p.auto.window);
      pipe = p.ensures.pipe;
    })
