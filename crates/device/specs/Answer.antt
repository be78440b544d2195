-- What an answer stands for: the number and the values that a turn reports, and the number of a making.
use Rattle.std.specs.Prelude.{ℕ, Bool, false, Result, Ok, Err, is_some, unwrap_or}
use Rattle.kernel.specs.declared.site.Site.{Site}
use Rattle.kernel.specs.Site.{no_site}
use Rattle.command.specs.Outcome.{outcome_number}
use Rattle.state.specs.declared.refusal.Refusal.{Refusal}
use Rattle.device.specs.declared.turn.Report.{Report}
use Rattle.device.specs.declared.turn.Answer.{Answer}
use Rattle.device.specs.declared.turn.Answer.TheVariants.{Refused, Idle, Served}
use Rattle.state.specs.Refusal.{refusal_number}

-- a turn's number: 0 served, 1 idle, or the refusal's
abbrev pub answer_number : Answer → ℕ
answer_number (Refused why) = refusal_number why
answer_number Idle = 1
answer_number (Served r) = 0

-- what is reported of a turn: ring, outcome, fence, words read, IRQ, apart from the fence's number whether one was emitted, and where
-- a kernel's thread stopped: address, place, group and thread
pub record Values : Type 0 where
  pub ring : ℕ
  pub outcome : ℕ
  pub fence : ℕ
  pub words : ℕ
  pub irq : Bool
  pub emitted : Bool
  pub site : Site

-- 0 for ring, outcome, fence and words read, no IRQ, no fence emitted, and no stop
abbrev pub no_values : Values
no_values = record { ring = 0; outcome = 0; fence = 0; words = 0; irq = false; emitted = false; site = no_site }

-- those of a report; where no fence was emitted its number is 0
abbrev pub report_values : Report → Values
report_values r = record {
  ring = r.ring;
  outcome = outcome_number r.outcome;
  fence = unwrap_or r.fence 0;
  words = r.words;
  irq = r.irq;
  emitted = is_some r.fence;
  site = r.site;
}

-- an idle or refused turn reports no values
unfoldable pub values_of : Answer → Values
values_of (Refused why) = no_values
values_of Idle = no_values
values_of (Served r) = report_values r

-- making a fresh device: 0 made, or the refusal's number
abbrev pub making_number : Result Unit Refusal → ℕ
making_number (Ok made) = 0
making_number (Err why) = refusal_number why
