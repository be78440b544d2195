-- Demand 1: what making a device gives.
use Rattle.std.specs.Prelude.{List, ℕ, ◌≤◌, ◌<◌, ◌≡◌, true, false, ◌⊎◌}
use Rattle.state.specs.declared.device.Window.{Window}
use Rattle.state.specs.declared.device.Device.{Device}
use Rattle.state.specs.declared.edition.Edition.{Edition}
use Rattle.state.specs.declared.edition.Edition.TheVariants.{One, Two}
use Rattle.state.specs.declared.edition.Start.{Start}
use Rattle.state.specs.declared.edition.Start.TheVariants.{Edition1, Edition2}
use Rattle.device.specs.declared.fresh.Fresh.{Fresh}
use Rattle.state.specs.Counts.{no_counts}
use Rattle.state.specs.Device.{empty_windows, fresh_device, empty_device, slot_of}
use Rattle.state.specs.Refusal.{memory_fits}
use Rattle.device.specs.Answer.{making_number}
use Rattle.device.specs.Fresh.{fresh_with, fresh_of}

-- the making gives this device and this number
pub record Gives (fresh : Fresh) (d : Device) (number : ℕ) : Type 0 where
  pub device : fresh.device ≡ d
  pub answer : making_number fresh.answer ≡ number

-- the device is of this edition, and all 64 slots hold this number
pub record Starts (d : Device) (edition : Edition) (first : ℕ) : Type 0 where
  pub edition_is : d.edition ≡ edition
  pub slots : (n : ℕ) → n < 64 → slot_of d n ≡ first

-- making a device over a memory of `memory` bytes with a limit and a start named: 101 if the memory or a window does not fit, else
-- 102 if the limit does not, and for nothing else; with either comes the empty device
pub record MakingWith (memory : ℕ) (windows : List Window) (limit : ℕ) (chosen : Start) : Type 0 where
  pub made : memory_fits memory windows ≡ true → 1 ≤ limit → limit ≤ 65536
      → Gives (fresh_with memory windows limit chosen) (fresh_device windows limit chosen) 0
  pub refused_101 : memory_fits memory windows ≡ false → Gives (fresh_with memory windows limit chosen) empty_device 101
  pub refused_102 : memory_fits memory windows ≡ true → (limit ≡ 0) ⊎ (65536 < limit)
      → Gives (fresh_with memory windows limit chosen) empty_device 102

-- with neither named: the limit is 16,384, the edition 1, and a refusal can only be 101
pub record Making (memory : ℕ) (windows : List Window) : Type 0 where
  pub made : memory_fits memory windows ≡ true → Gives (fresh_of memory windows) (fresh_device windows 16384 Edition1) 0
  pub refused : memory_fits memory windows ≡ false → Gives (fresh_of memory windows) empty_device 101

-- making a device, with a limit and a start named and with neither
pub record FreshMakes : Type 0 where
  pub named : (memory : ℕ) (windows : List Window) (limit : ℕ) (chosen : Start) → MakingWith memory windows limit chosen
  pub unnamed : (memory : ℕ) (windows : List Window) → Making memory windows
  -- a fresh device, the empty one too, has counted nothing
  pub counts : (windows : List Window) (limit : ℕ) (chosen : Start) → (fresh_device windows limit chosen).counts ≡ no_counts
  -- in edition 1 its slots hold 0, and in edition 2 the starting number
  pub edition_1 : (windows : List Window) (limit : ℕ) → Starts (fresh_device windows limit Edition1) One 0
  pub edition_2 : (windows : List Window) (limit first : ℕ) → Starts (fresh_device windows limit (Edition2 first)) Two first
  -- the empty device is fresh, of edition 1, with four empty windows at 0 and the limit 16,384, whatever limit and start were named
  pub empty : empty_device ≡ fresh_device empty_windows 16384 Edition1
  -- so a refused making gives edition 1 and slots of 0
  pub refused : Starts empty_device One 0
