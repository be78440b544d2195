-- Turns over unchanging rings come to an end: each served turn takes at least 16 bytes of a ring.
use Rattle.std.specs.Prelude.{ℕ, ◌*◌, ◌≤◌, ◌<◌, ◌≡◌, List, ◌∷◌, length}
use Rattle.state.specs.declared.device.Window.{Window}
use Rattle.state.specs.declared.device.Device.{Device}
use Rattle.state.specs.declared.edition.Start.{Start}
use Rattle.device.specs.declared.turn.Answer.{Answer}
use Rattle.state.specs.Device.{Shaped, fresh_device}
use Rattle.device.specs.Turn.{Call, ring_in}
use Rattle.device.specs.Untaken.{sum_of, untaken_in}
use Rattle.demands.specs.Calls.{left_by, number_in, served_with, served_with_in, heard, EachHeard}

-- the call lends R q as the bytes of each ring q
abbrev pub Lends : (ℕ → List ℕ) → Call → Type 0
Lends R call = (q : ℕ) → q < 4 → ring_in call q ≡ R q

-- 1 if the answer serves ring q, else 0
abbrev pub served : Answer → ℕ → ℕ
served answer q = served_with (λ values. values.ring) answer q

-- how many commands of ring q the calls take
abbrev pub taken : Device → List Call → ℕ → ℕ
taken d calls q = served_with_in (λ values. values.ring) d calls q

-- one of the calls answers idle
pub data SaysIdle : Device → List Call → Type 0 where
  here : {d : Device} {call : Call} {calls : List Call} → number_in d call ≡ 1 → SaysIdle d (call ∷ calls)
  later : {d : Device} {call : Call} {calls : List Call} → SaysIdle (left_by d call) calls → SaysIdle d (call ∷ calls)

-- the calls that serve a ring are no more than a sixteenth of the bytes not yet taken
abbrev pub BoundedFrom : Device → Type 0
BoundedFrom d =
    (R : ℕ → List ℕ) (calls : List Call) → EachHeard (Lends R) d calls → 16 * sum_of 4 (taken d calls) ≤ untaken_in R d

-- of every device of the right form
unfoldable pub TurnsBounded : Type 0
TurnsBounded = (d : Device) → Shaped d → BoundedFrom d

-- if more calls than that are not refused, one of them answers idle
abbrev pub IdleInTimeFrom : Device → Type 0
IdleInTimeFrom d =
    (R : ℕ → List ℕ) (calls : List Call) → EachHeard (Lends R) d calls
    → untaken_in R d < 16 * heard d calls → SaysIdle d calls

-- of every device of the right form
unfoldable pub IdleInTime : Type 0
IdleInTime = (d : Device) → Shaped d → IdleInTimeFrom d

-- from fresh, the bytes not yet taken are those of the four rings
unfoldable pub FreshIdleInTime : Type 0
FreshIdleInTime =
    (windows : List Window) (limit : ℕ) (chosen : Start) (R : ℕ → List ℕ) (calls : List Call)
    → EachHeard (Lends R) (fresh_device windows limit chosen) calls
    → sum_of 4 (λ q. length (R q)) < 16 * heard (fresh_device windows limit chosen) calls → SaysIdle (fresh_device windows limit chosen) calls
