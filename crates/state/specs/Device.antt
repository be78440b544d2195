-- The device's state.
use Rattle.std.specs.Prelude.{ℕ, ◌^◌, ◌<◌, ◌≡◌, List, [], ◌∷◌, length, get_or, set, replicate, None}
use Rattle.state.specs.declared.counts.Counts.{Counts}
use Rattle.state.specs.declared.edition.Edition.{Edition}
use Rattle.state.specs.declared.edition.Start.{Start}
use Rattle.state.specs.declared.edition.Start.TheVariants.{Edition1}
use Rattle.state.specs.declared.device.Window.{Window}
use Rattle.state.specs.declared.device.Ring.{Ring}
use Rattle.state.specs.declared.device.Device.{Device}
use Rattle.state.specs.Counts.{no_counts}
use Rattle.state.specs.Edition.{edition_of, first_of}

-- an empty window at 0
abbrev pub empty_window : Window
empty_window = record { start = 0; length = 0 }

-- a ring as it is when fresh: its cursor at 0, no frame
abbrev pub fresh_ring : Window → Ring
fresh_ring window = record { window = window; cursor = 0; frame = None }

-- a device of these parts
abbrev pub device_of : List Ring → List ℕ → ℕ → ℕ → Counts → Edition → Device
device_of rings slots marker limit counts edition =
    record { rings = rings; slots = slots; marker = marker; limit = limit; counts = counts; edition = edition }

-- a device has four rings, 64 slots, a count for each ring and one for each of the fifteen outcomes
pub record Shaped (d : Device) : Type 0 where
  pub rings : length d.rings ≡ 4
  pub slots : length d.slots ≡ 64
  pub commands : length d.counts.commands ≡ 4
  pub outcomes : length d.counts.outcomes ≡ 15

-- the limit, the steps that a thread of a kernel may take, where none is named
abbrev pub default_limit : ℕ
default_limit = 16384

-- window q of four; past those that are listed, an empty one at 0
abbrev pub nth_window : List Window → ℕ → Window
nth_window windows q = get_or windows q empty_window

-- a fresh device of four windows with this limit and start: all 64 slots the starting number, the marker 0, nothing counted
unfoldable pub fresh_device : List Window → ℕ → Start → Device
fresh_device windows limit start =
    device_of
    (fresh_ring (nth_window windows 0) ∷ fresh_ring (nth_window windows 1)
    ∷ fresh_ring (nth_window windows 2) ∷ fresh_ring (nth_window windows 3) ∷ [])
    (replicate 64 (first_of start)) 0 limit no_counts (edition_of start)

-- four empty windows at 0
abbrev pub empty_windows : List Window
empty_windows = replicate 4 empty_window

-- a fresh device of four empty windows, no limit named, edition 1
unfoldable pub empty_device : Device
empty_device = fresh_device empty_windows default_limit Edition1

-- ring q
unfoldable pub ring_of : Device → ℕ → Ring
ring_of d q = get_or d.rings q (fresh_ring empty_window)

-- the number that slot n holds
unfoldable pub slot_of : Device → ℕ → ℕ
slot_of d n = get_or d.slots n 0

-- how many commands ring q has taken
unfoldable pub commands_of : Device → ℕ → ℕ
commands_of d q = get_or d.counts.commands q 0

-- how many commands had outcome k
unfoldable pub outcomes_of : Device → ℕ → ℕ
outcomes_of d k = get_or d.counts.outcomes k 0

-- each slot holds a 32-bit number
unfoldable pub SlotsFit : Device → Type 0
SlotsFit d = (n : ℕ) → slot_of d n < 2 ^ 32

-- each count is a 32-bit number
pub record CountsFit (d : Device) : Type 0 where
  pub commands : (q : ℕ) → commands_of d q < 2 ^ 32
  pub outcomes : (k : ℕ) → outcomes_of d k < 2 ^ 32

-- what every device has by its type: four rings, 64 slots, four and fifteen counts, and 32-bit numbers in the slots, the marker,
-- the limit and the counts
pub record ByType (d : Device) : Type 0 where
  pub shaped : Shaped d
  pub slots-fit : SlotsFit d
  pub marker-fits : d.marker < 2 ^ 32
  pub limit_fits : d.limit < 2 ^ 32
  pub counts-fit : CountsFit d

-- the device with one ring, the slots, the marker or the counts changed
unfoldable pub with_ring : Device → ℕ → Ring → Device
with_ring d q ring = device_of (set d.rings q ring) d.slots d.marker d.limit d.counts d.edition

unfoldable pub with_slots : Device → List ℕ → Device
with_slots d slots = device_of d.rings slots d.marker d.limit d.counts d.edition

unfoldable pub with_marker : Device → ℕ → Device
with_marker d marker = device_of d.rings d.slots marker d.limit d.counts d.edition

unfoldable pub with_counts : Device → Counts → Device
with_counts d counts = device_of d.rings d.slots d.marker d.limit counts d.edition
