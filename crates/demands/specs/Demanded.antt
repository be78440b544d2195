-- What is demanded of the turns of a device, with nothing asked of it: the contract of `of_every_device` says it of every
-- `Device`. What is said from fresh (`Idle.IdleIsDone` and its like) asks nothing of edition 1 either; of edition 2, where waits
-- count, it asks that the targets are near the starting number (`Targets.TargetsNear`).
use Rattle.std.specs.Prelude.{◌≡◌, List}
use Rattle.state.specs.declared.device.Device.{Device}
use Rattle.state.specs.declared.edition.Edition.TheVariants.{One}
use Rattle.device.specs.Turn.{Call}
use Rattle.demands.specs.Keeps.{Keeps}
use Rattle.demands.specs.Sound.{StaysSound, LeavesSound, StaySoundFrom}
use Rattle.demands.specs.Counting.{Counting}
use Rattle.demands.specs.Counts.{CountsOver}
use Rattle.demands.specs.Reports.{ReportsFrom}
use Rattle.demands.specs.Editions.{Editions}
use Rattle.demands.specs.EachStep.{StepByStep}
use Rattle.demands.specs.FourTurns.{FourTurnsFrom, FourTurnsByHeadFrom}
use Rattle.demands.specs.Bounded.{BoundedFrom, IdleInTimeFrom}

pub record Demanded (d : Device) : Type 0 where
  -- demand 1: what a turn leaves as it was, and that a sound device stays sound
  pub keeps : (call : Call) → Keeps d call
  pub stays_sound : (call : Call) → StaysSound d call
  pub leaves_sound : (call : Call) → LeavesSound d call
  pub calls_stay_sound : StaySoundFrom d
  -- demand 2: what is reported, what the editions differ in, what is counted, and each step of each thread
  pub reports : ReportsFrom d
  pub editions : (call : Call) → Editions d call
  pub counting : (call : Call) → Counting d call
  pub counts : (calls : List Call) → CountsOver d calls
  pub steps : (call : Call) → StepByStep d call
  -- demand 3: in edition 1 a ready ring is served within four turns (in edition 2 so it is said from fresh, in
  -- `FourTurns.FreshFourTurns`), and turns over unchanging rings come to an end
  pub four_turns : d.edition ≡ One → FourTurnsFrom d
  pub four_turns_by_head : d.edition ≡ One → FourTurnsByHeadFrom d
  pub bounded : BoundedFrom d
  pub idle_in_time : IdleInTimeFrom d
