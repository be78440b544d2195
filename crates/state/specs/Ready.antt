-- Which ring is served.
use Rattle.std.specs.Prelude.{ℕ, zero, suc, ◌+◌, ◌≤◌, ◌<◌, Bool, not, ◌&&◌, ◌||◌, cond, List, ltb, eqb, get_or, Option, Some, None}
use Rattle.command.specs.declared.header.Command.{Command}
use Rattle.command.specs.Flags.{wait_bit}
use Rattle.command.specs.Faults.{header_fault}
use Rattle.command.specs.Header.{command_at, is_whole}
use Rattle.command.specs.Outcome.{is_done}
use Rattle.state.specs.declared.device.Device.{Device}
use Rattle.state.specs.declared.device.Ring.{Ring}
use Rattle.state.specs.declared.edition.Edition.{Edition}
use Rattle.state.specs.Device.{ring_of}
use Rattle.state.specs.Slots.{is_met}

-- a whole command is ready if it has a header fault, or no wait bit, or its slot's number meets the target by the edition's rule
unfoldable pub ready_with : Edition → Command → ℕ → Bool
ready_with edition c slot = not (is_done (header_fault c)) || not (wait_bit c.flags) || is_met edition slot c.target

-- a ring is ready among these slots: its head command is whole and ready
unfoldable pub ready_where : Edition → Ring → List ℕ → List ℕ → Bool
ready_where edition ring slots bytes =
    let c = command_at bytes ring.cursor in
    is_whole bytes ring.cursor && ready_with edition c (get_or slots c.rdst 0)

-- ring q of the device, whose bytes are these, is ready
unfoldable pub ready_at : Device → ℕ → List ℕ → Bool
ready_at d q bytes = ready_where d.edition (ring_of d q) d.slots bytes

-- after 3 comes 0
unfoldable pub next_ring : ℕ → ℕ
next_ring q = cond (ltb q 3) (q + 1) 0

-- the first ready of n rings from q on
unfoldable pub seek : (ℕ → Bool) → ℕ → ℕ → Option ℕ
seek ready q zero = None
seek ready q (suc n) = cond (ready q) (Some q) (seek ready (next_ring q) n)

-- the bytes of ring q of four
unfoldable pub bytes_of_ring : ℕ → List ℕ → List ℕ → List ℕ → List ℕ → List ℕ
bytes_of_ring q r0 r1 r2 r3 = cond (eqb q 0) r0 (cond (eqb q 1) r1 (cond (eqb q 2) r2 r3))

-- the first ready ring from the marker upward
unfoldable pub pick_of : Device → List ℕ → List ℕ → List ℕ → List ℕ → Option ℕ
pick_of d r0 r1 r2 r3 = seek (λ q. ready_at d q (bytes_of_ring q r0 r1 r2 r3)) d.marker 4

-- what a sound state says of the numbers that picking goes by
pub record Steady (d : Device) : Type 0 where
  pub marker : d.marker < 4
  pub cursors : (q : ℕ) → q < 4 → (ring_of d q).cursor ≤ 65536
