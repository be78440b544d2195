use Rattle.demands.proofs.Demanded.{demanded}
use Rattle.demands.proofs.of_every_device.Goals as goal

pub returns : goal.returns
returns c = (c.by_type.ensures.0, demanded _ c.by_type.ensures.1)
