-- What the type of a device gives is all that the demands ask of one.
-- Assumes nothing.
use Rattle.state.specs.declared.device.Device.{Device}
use Rattle.state.specs.Device.{ByType}
use Rattle.demands.specs.FourTurns.{FourTurns, FourTurnsByHead}
use Rattle.demands.specs.Keeps.{TurnKeeps}
use Rattle.demands.specs.Sound.{TurnStaysSound, TurnLeavesSound, CallsStaySound}
use Rattle.demands.specs.Reports.{TurnReports}
use Rattle.demands.specs.Editions.{TurnEditions}
use Rattle.demands.specs.Counting.{TurnCounts}
use Rattle.demands.specs.Counts.{CallsCount}
use Rattle.demands.specs.Bounded.{TurnsBounded, IdleInTime}
use Rattle.demands.specs.EachStep.{EachStep}
use Rattle.demands.specs.Demanded.{Demanded}
use Rattle.demands.proofs.Demands as demands

pub demanded : (d : Device) → ByType d → Demanded d
unfolding TurnKeeps TurnStaysSound TurnLeavesSound CallsStaySound TurnReports TurnEditions TurnCounts CallsCount EachStep FourTurns FourTurnsByHead TurnsBounded IdleInTime
demanded d typed = record {
  keeps = λ call. demands.turn-keeps d call;
  stays_sound = λ call. demands.turn_stays_sound d call;
  leaves_sound = demands.turn-leaves_sound d typed.shaped;
  calls_stay_sound = demands.calls_stay_sound d typed.shaped;
  reports = demands.turn-reports d typed.shaped typed.slots-fit;
  editions = demands.turn-editions d typed.shaped typed.slots-fit;
  counting = demands.turn-counts d typed.shaped;
  counts = demands.calls_count d typed.shaped typed.counts-fit;
  steps = λ call. demands.each_step d call;
  four_turns = demands.four_turns d typed.slots-fit;
  four_turns_by_head = demands.four_turns_by_head d typed.slots-fit;
  bounded = demands.turns_bounded d typed.shaped;
  idle_in_time = demands.idle_in_time d typed.shaped;
}
