-- Demand 2: what the counts tell, over any calls, and from a fresh device over unchanging rings.
use Rattle.std.specs.Prelude.{ℕ, ◌+◌, ◌%◌, ◌^◌, ◌<◌, ◌≡◌, true, List, sum}
use Rattle.command.specs.Header.{is_whole}
use Rattle.state.specs.declared.device.Window.{Window}
use Rattle.state.specs.declared.device.Device.{Device}
use Rattle.state.specs.declared.edition.Start.{Start}
use Rattle.state.specs.Device.{Shaped, CountsFit, fresh_device, ring_of, commands_of, outcomes_of}
use Rattle.device.specs.Turn.{Call}
use Rattle.demands.specs.Calls.{last_of, served_with_in, EachHeard}
use Rattle.demands.specs.Bounded.{Lends, taken}
use Rattle.demands.specs.RingCommands.{place_of}

-- how many of the commands that the calls take have outcome k
abbrev pub ended_with : Device → List Call → ℕ → ℕ
ended_with d calls k = served_with_in (λ values. values.outcome) d calls k

-- over any calls, whatever they lend, each count goes up by the commands that were taken, modulo 4,294,967,296
pub record CountsOver (d : Device) (calls : List Call) : Type 0 where
  pub commands : (q : ℕ) → commands_of (last_of d calls) q ≡ (commands_of d q + taken d calls q) % 2 ^ 32
  pub outcomes : (k : ℕ) → outcomes_of (last_of d calls) k ≡ (outcomes_of d k + ended_with d calls k) % 2 ^ 32

-- from every device of the right form whose counts have 32 bits
unfoldable pub CallsCount : Type 0
CallsCount = (d : Device) → Shaped d → CountsFit d → (calls : List Call) → CountsOver d calls

-- the counts tell how far the device is in the rings R
pub record CountsTell (R : ℕ → List ℕ) (d : Device) : Type 0 where
  -- a ring's count is the number of commands before its cursor
  pub places : (q : ℕ) → q < 4 → place_of (R q) (commands_of d q) ≡ (ring_of d q).cursor
  -- each of which is whole
  pub whole : (q : ℕ) → q < 4 → (n : ℕ) → n < commands_of d q → is_whole (R q) (place_of (R q) n) ≡ true
  -- and the outcomes' counts sum to the rings', with no modulus
  pub sums : sum d.counts.outcomes ≡ sum d.counts.commands

-- so after any calls from fresh of which those that are not refused lend R
unfoldable pub FreshCounts : Type 0
FreshCounts =
    (windows : List Window) (limit : ℕ) (chosen : Start) (R : ℕ → List ℕ) (calls : List Call)
    → EachHeard (Lends R) (fresh_device windows limit chosen) calls
    → CountsTell R (last_of (fresh_device windows limit chosen) calls)
