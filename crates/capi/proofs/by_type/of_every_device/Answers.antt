use Rattle.device.proofs.Verdicts.{each_of_four}
use Rattle.capi.proofs.Forms.{formed, slots-row}
use Rattle.capi.proofs.Imaged.{imaged}
use Rattle.capi.proofs.by_type.of_every_device.Goals as goal

pub returns : goal.returns
returns c =
    let typed = c.by_type.ensures.1 in (
      c.by_type.ensures.0,
      imaged _
          (formed _ typed.shaped
          (each_of_four _
          (rw (← c.ring.ensures) (record { at = c.of_every_ring.ensures.1 }))
          (rw (← c.ring-2.ensures) (record { at = c.of_every_ring-2.ensures.1 }))
          (rw (← c.ring-3.ensures) (record { at = c.of_every_ring-3.ensures.1 }))
          (rw (← c.ring-4.ensures) (record { at = c.of_every_ring-4.ensures.1 })))
          (slots-row _ typed.slots-fit)
          typed.marker-fits
          typed.limit_fits
          typed.counts-fit),
    )
