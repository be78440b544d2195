-- A call over a device's image is the device's turn.
use Rattle.std.specs.Prelude.{ℕ, ◌^◌, ◌<◌, ◌≡◌, List, length}
use Rattle.state.specs.declared.device.Device.{Device}
use Rattle.state.specs.declared.edition.Start.{Start}
use Rattle.state.specs.Edition.{first_of}
use Rattle.device.specs.Answer.{answer_number}
use Rattle.device.specs.Turn.{Call, TurnEnd, ring_in, turn_of}
use Rattle.capi.specs.Image.{encode}
use Rattle.capi.specs.Report.{report_length, report_bytes}
use Rattle.capi.specs.Calls.{Called, fresh_for, turn_call}
use Rattle.capi.specs.Inverse.{OfBytes, Formed}

-- the image of the device that a turn leaves, and what else it leaves and answers
unfoldable pub followed : TurnEnd → Called
followed a = record {
  image = encode a.turned.device;
  memory = a.memory;
  pipe = a.pipe;
  report = report_bytes a.turned.answer;
  answer = answer_number a.turned.answer;
}

-- served or not, a call over the image of a device leaves the image of the device that its turn leaves
abbrev pub FollowsFrom : Device → Type 0
FollowsFrom d = (report : List ℕ) (call : Call) → length report ≡ report_length → turn_call (encode d) report call ≡ followed (turn_of d call)

-- of every formed device
abbrev pub TurnFollows : Type 0
TurnFollows = (d : Device) → Formed d → FollowsFrom d

-- a fresh device is formed, whatever limit is named, if the windows lent are of bytes and the starting number has 32 bits
abbrev pub FreshForms : Type 0
FreshForms =
    (windows : List ℕ) (memory limit : ℕ) (start : Start) → OfBytes windows → first_of start < 2 ^ 32
    → Formed (fresh_for windows memory limit start).device

-- the rings that a call lends are of bytes
abbrev pub RingsOfBytes : Call → Type 0
RingsOfBytes call = (q : ℕ) → OfBytes (ring_in call q)

-- a turn from d over rings of bytes leaves a formed device
abbrev pub FormsFrom : Device → Type 0
FormsFrom d = (call : Call) → RingsOfBytes call → Formed (turn_of d call).turned.device

-- of every formed device; so a call follows its turn from call to call
abbrev pub TurnForms : Type 0
TurnForms = (d : Device) → Formed d → FormsFrom d
