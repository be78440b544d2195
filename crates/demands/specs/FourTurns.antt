-- Demand 3, first part: a ready ring is served within four turns.
use Rattle.std.specs.Prelude.{ℕ, ◌+◌, ◌≤◌, ◌<◌, ◌≡◌, true, List, length, get_or}
use Rattle.command.specs.Header.{command_at}
use Rattle.state.specs.declared.device.Window.{Window}
use Rattle.state.specs.declared.device.Device.{Device}
use Rattle.state.specs.declared.edition.Edition.TheVariants.{One}
use Rattle.state.specs.declared.edition.Start.{Start}
use Rattle.state.specs.Device.{fresh_device, ring_of, SlotsFit}
use Rattle.state.specs.Ready.{ready_at}
use Rattle.device.specs.Turn.{Call, ring_in}
use Rattle.demands.specs.Calls.{last_of, heard, EachHeard, Serves}
use Rattle.demands.specs.Bounded.{Lends}
use Rattle.demands.specs.Targets.{TargetsNear}

-- r has the bytes of b from the cursor up to the end of its command there
pub record SameHead (b : List ℕ) (cursor : ℕ) (r : List ℕ) : Type 0 where
  pub bytes : (i : ℕ) → cursor ≤ i → i < cursor + (command_at b cursor).size → get_or b i 0 ≡ get_or r i 0
  pub inside : cursor + (command_at b cursor).size ≤ length r

-- ring q is ready with the bytes b, and keeps them in each call that is not refused; of four such calls one serves it
abbrev pub FourTurnsFrom : Device → Type 0
FourTurnsFrom d =
    (q : ℕ) (b : List ℕ) (calls : List Call) → q < 4 → ready_at d q b ≡ true
    → EachHeard (λ call. ring_in call q ≡ b) d calls → 4 ≤ heard d calls → Serves q (ring_of d q).cursor d calls

-- of every device of edition 1 whose slots hold 32-bit numbers, in any state
unfoldable pub FourTurns : Type 0
FourTurns = (d : Device) → SlotsFit d → d.edition ≡ One → FourTurnsFrom d

-- it is enough that the bytes of its head command stay
abbrev pub FourTurnsByHeadFrom : Device → Type 0
FourTurnsByHeadFrom d =
    (q : ℕ) (b : List ℕ) (calls : List Call) → q < 4 → ready_at d q b ≡ true
    → EachHeard (λ call. SameHead b (ring_of d q).cursor (ring_in call q)) d calls → 4 ≤ heard d calls
    → Serves q (ring_of d q).cursor d calls

-- of every device of edition 1 whose slots hold 32-bit numbers, in any state
unfoldable pub FourTurnsByHead : Type 0
FourTurnsByHead = (d : Device) → SlotsFit d → d.edition ≡ One → FourTurnsByHeadFrom d

-- ring q is ready with the bytes R q, and each call that is not refused lends R; of four such calls one serves it
abbrev pub FourTurnsOver : (ℕ → List ℕ) → Device → Type 0
FourTurnsOver R d =
    (q : ℕ) (calls : List Call) → q < 4 → ready_at d q (R q) ≡ true → EachHeard (Lends R) d calls → 4 ≤ heard d calls
    → Serves q (ring_of d q).cursor d calls

-- in either edition, from every state that a fresh device reaches by calls over R, whose targets are near the starting number
unfoldable pub FreshFourTurns : Type 0
FreshFourTurns =
    (windows : List Window) (limit : ℕ) (chosen : Start) (R : ℕ → List ℕ) (before : List Call) → TargetsNear chosen R
    → EachHeard (Lends R) (fresh_device windows limit chosen) before
    → FourTurnsOver R (last_of (fresh_device windows limit chosen) before)
