-- Demand 1: a device stays sound, so a call on its own memory is refused only for what it lends.
use Rattle.std.specs.Prelude.{ℕ, ◌%◌, ◌^◌, ◌≤◌, ◌<◌, ◌≡◌, Bool, true, false, List, ◌⊎◌, length, sum}
use Rattle.pack.specs.Kernels.{sound_pack}
use Rattle.state.specs.declared.device.Window.{Window}
use Rattle.state.specs.declared.device.Device.{Device}
use Rattle.state.specs.declared.edition.Start.{Start}
use Rattle.state.specs.Counts.{balanced}
use Rattle.state.specs.Device.{Shaped, ring_of}
use Rattle.device.specs.Answer.{making_number}
use Rattle.state.specs.Refusal.{windows_fit, state_sound, rings_fit}
use Rattle.device.specs.Fresh.{fresh_with}
use Rattle.device.specs.Turn.{Call}
use Rattle.demands.specs.Calls.{left_by, number_in, EachCall}

-- of a turn from any device on any input
pub record StaysSound (d : Device) (call : Call) : Type 0 where
  -- the windows stay
  pub windows : (q : ℕ) → (ring_of (left_by d call) q).window ≡ (ring_of d q).window
  -- so they fit the same memories, and 101 is met only with another
  pub fits : (memory : ℕ) → windows_fit (left_by d call) memory ≡ windows_fit d memory
  -- a call from a sound state is not refused as 102
  pub not_102 : state_sound d ≡ true → number_in d call ≡ 102 → ⊥
  -- a call whose memory the windows fit is not refused as 101
  pub not_101 : windows_fit d (length call.memory) ≡ true → number_in d call ≡ 101 → ⊥
  -- and if the limit is 0 or above 65,536 it is refused as 102
  pub limit_102 : windows_fit d (length call.memory) ≡ true → (d.limit ≡ 0) ⊎ (65536 < d.limit) → number_in d call ≡ 102
  -- or if the sum of the four counts and the sum of the fifteen differ modulo 4,294,967,296
  pub counts_102 : windows_fit d (length call.memory) ≡ true
      → (sum d.counts.commands % 2 ^ 32 ≡ sum d.counts.outcomes % 2 ^ 32 → ⊥) → number_in d call ≡ 102

unfoldable pub TurnStaysSound : Type 0
TurnStaysSound = (d : Device) (call : Call) → StaysSound d call

-- of a turn from a device of the right form
pub record LeavesSound (d : Device) (call : Call) : Type 0 where
  -- a state that is not refused as 102 leaves one that is not
  pub state : state_sound d ≡ true → state_sound (left_by d call) ≡ true
  -- sums of counts that agree still agree after it, whatever the answer
  pub agree : balanced d.counts ≡ true → balanced (left_by d call).counts ≡ true
  -- and whatever is handed in, only a call refused as 101 or 102 leaves sums that differ, as they were
  pub agreed : (number_in d call ≡ 101 → ⊥) → (number_in d call ≡ 102 → ⊥) → balanced (left_by d call).counts ≡ true

unfoldable pub TurnLeavesSound : Type 0
TurnLeavesSound = (d : Device) → Shaped d → (call : Call) → LeavesSound d call

-- no ring that a call lends is too long or shorter than its cursor
abbrev pub lent_rings_fit : Device → Call → Bool
lent_rings_fit d call = rings_fit d (length call.ring0) (length call.ring1) (length call.ring2) (length call.ring3)

-- a call is refused for its rings, else for its pipe, else for its pack, and for nothing else
pub record RefusedForLent (d : Device) (call : Call) : Type 0 where
  pub rings : lent_rings_fit d call ≡ false → number_in d call ≡ 103
  pub pipe : lent_rings_fit d call ≡ true → length call.pipe < 1020 → number_in d call ≡ 104
  pub pack : lent_rings_fit d call ≡ true → 1020 ≤ length call.pipe → sound_pack call.pack ≡ false → number_in d call ≡ 105
  -- else it is served or idle
  pub heard : lent_rings_fit d call ≡ true → 1020 ≤ length call.pipe → sound_pack call.pack ≡ true → number_in d call ≤ 1

-- so is every call from a sound state on a memory that the windows fit
unfoldable pub SoundRefusals : Type 0
SoundRefusals =
    (d : Device) (call : Call) → state_sound d ≡ true → windows_fit d (length call.memory) ≡ true → RefusedForLent d call

-- making a device over a memory of `memory` bytes, with a limit and a start named
pub record MakesSound (memory : ℕ) (windows : List Window) (limit : ℕ) (chosen : Start) : Type 0 where
  -- made or refused, its state is sound
  pub state : state_sound (fresh_with memory windows limit chosen).device ≡ true
  -- made, its windows fit the memory
  pub fits : making_number (fresh_with memory windows limit chosen).answer ≡ 0 → windows_fit (fresh_with memory windows limit chosen).device memory ≡ true
  -- refused, they are empty and fit every memory that is not too long
  pub empty : 101 ≤ making_number (fresh_with memory windows limit chosen).answer → (n : ℕ) → n ≤ 1048576 → windows_fit (fresh_with memory windows limit chosen).device n ≡ true

-- with any limit and start named; where neither is, the limit is 16,384 and the edition 1
unfoldable pub FreshMakesSound : Type 0
FreshMakesSound = (memory : ℕ) (windows : List Window) (limit : ℕ) (chosen : Start) → MakesSound memory windows limit chosen

-- a call over a device that was handed back: it is not refused as 102, and on `memory` bytes only for what it lends
pub record HandedBack (memory : ℕ) (d : Device) (call : Call) : Type 0 where
  pub not_102 : number_in d call ≡ 102 → ⊥
  pub lent : length call.memory ≡ memory → RefusedForLent d call

-- so is each call, one after another, from a sound state whose windows fit so many bytes
abbrev pub StaySoundFrom : Device → Type 0
StaySoundFrom d =
    (memory : ℕ) (calls : List Call) → state_sound d ≡ true → windows_fit d memory ≡ true → EachCall (HandedBack memory) d calls

-- of every device of the right form
unfoldable pub CallsStaySound : Type 0
CallsStaySound = (d : Device) → Shaped d → StaySoundFrom d

-- and from a made device, with the memory's length that it was made for
unfoldable pub FreshStaysSound : Type 0
FreshStaysSound =
    (memory : ℕ) (windows : List Window) (limit : ℕ) (chosen : Start) (calls : List Call) → making_number (fresh_with memory windows limit chosen).answer ≡ 0
    → EachCall (HandedBack memory) (fresh_with memory windows limit chosen).device calls
