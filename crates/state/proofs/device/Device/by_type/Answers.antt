use mathlib.Core.Path.{refl}
use lib.ListN.{get_or}
use mir.Syntax.{w32}
use mir.Val.{Fits}
use Rattle.state.specs.Device.{slot_of, commands_of, outcomes_of, SlotsFit}
use borrow.Author.Rules.{rules}
use Rattle.state.proofs.device.Device.by_type.Goals as goal

pub returns : goal.returns
unfolding SlotsFit slot_of commands_of outcomes_of
returns c =
    let d = c.args.self in (
      refl,
      record {
        shaped = record { rings = search rules; slots = search rules; commands = search rules; outcomes = search rules };
        slots-fit = λ n. let number : Fits w32 (get_or d.slots n 0) = search rules in number.fits;
        marker-fits = search rules;
        limit_fits = search rules;
        counts-fit = record {
          commands = λ q. let number : Fits w32 (get_or d.counts.commands q 0) = search rules in number.fits;
          outcomes = λ k. let number : Fits w32 (get_or d.counts.outcomes k 0) = search rules in number.fits;
        };
      },
    )
