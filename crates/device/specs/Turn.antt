-- A turn.
use Rattle.std.specs.Prelude.{ℕ, ◌+◌, ◌≤◌, ◌<◌, ◌≡◌, Bool, true, cond, List, length, Option, Some, None, Result, Ok, Err}
use Rattle.std.specs.Bool.{then_some}
use Rattle.memory.specs.Window.{window_of, put_back}
use Rattle.command.specs.declared.header.Command.{Command}
use Rattle.command.specs.declared.frame.Frame.{Frame}
use Rattle.work.specs.declared.work.Performed.{Performed}
use Rattle.command.specs.Header.{command_at, is_whole}
use Rattle.command.specs.Outcome.{outcome_number}
use Rattle.work.specs.Perform.{performed_of}
use Rattle.command.specs.Report.{emits, interrupts, words_read}
use Rattle.state.specs.declared.device.Ring.{Ring}
use Rattle.state.specs.declared.device.Device.{Device}
use Rattle.state.specs.declared.refusal.Refusal.{Refusal}
use Rattle.device.specs.declared.turn.Report.{Report}
use Rattle.device.specs.declared.turn.Answer.{Answer}
use Rattle.device.specs.declared.turn.Answer.TheVariants.{Refused, Idle, Served}
use Rattle.device.specs.declared.turn.Turned.{Turned}
use Rattle.state.specs.Slots.{is_full, emitted, emitted_in}
use Rattle.state.specs.Counts.{counted}
use Rattle.state.specs.Device.{ring_of, slot_of, with_ring, with_slots, with_marker, with_counts}
use Rattle.state.specs.Refusal.{verdict_of}
use Rattle.state.specs.Ready.{next_ring, bytes_of_ring, pick_of}

-- what is lent to a turn
pub record Call : Type 0 where
  pub memory : List ℕ
  pub ring0 : List ℕ
  pub ring1 : List ℕ
  pub ring2 : List ℕ
  pub ring3 : List ℕ
  pub pack : List ℕ
  pub pipe : List ℕ

-- the memory, rings, pack and pipe of a call
abbrev pub call_of : List ℕ → List ℕ → List ℕ → List ℕ → List ℕ → List ℕ → List ℕ → Call
call_of memory ring0 ring1 ring2 ring3 pack pipe =
    record { memory = memory; ring0 = ring0; ring1 = ring1; ring2 = ring2; ring3 = ring3; pack = pack; pipe = pipe }

-- the bytes of ring q that a call lends
abbrev pub ring_in : Call → ℕ → List ℕ
ring_in call q = bytes_of_ring q call.ring0 call.ring1 call.ring2 call.ring3

-- the ring that a call's turn picks
abbrev pub pick_in : Device → Call → Option ℕ
pick_in d call = pick_of d call.ring0 call.ring1 call.ring2 call.ring3

-- the device after a turn and its answer, and the memory and pipe that it leaves
pub record TurnEnd : Type 0 where
  pub turned : Turned
  pub memory : List ℕ
  pub pipe : List ℕ

-- what a function returns, and leaves in the memory and the pipe, is this
pub record Shows (r : Turned) (m p : List ℕ) (end : TurnEnd) : Type 0 where
  pub answer : r ≡ end.turned
  pub memory : m ≡ end.memory
  pub pipe : p ≡ end.pipe

-- a refused or idle turn changes nothing
unfoldable pub unchanged : Device → Call → Answer → TurnEnd
unchanged d call answer = record { turned = record { device = d; answer = answer }; memory = call.memory; pipe = call.pipe }

-- an emit changes its slot
unfoldable pub emit_to : Bool → Device → ℕ → Device
emit_to emitting d n = cond emitting (with_slots d (emitted_in d.slots n)) d

-- a ring whose command is taken: its cursor moves past it
unfoldable pub ring_after : Ring → Command → Option Frame → Ring
ring_after r c frame = record { window = r.window; cursor = r.cursor + c.size; frame = frame }

-- the device once ring q's command has had its outcome: the marker becomes the ring after it, and the command is counted
unfoldable pub device_after : Device → ℕ → Command → Performed → Device
device_after d q c p =
    with_counts
    (with_marker
    (emit_to (emits c p.outcome) (with_ring d q (ring_after (ring_of d q) c p.frame)) c.rdst)
    (next_ring q))
    (counted d.counts q (outcome_number p.outcome))

-- what is reported of a served command; a fence is the slot's new number, if one is emitted
unfoldable pub report_of : Device → ℕ → Command → Performed → Report
report_of d q c p = record {
  ring = q;
  outcome = p.outcome;
  fence = then_some (emits c p.outcome) (emitted (slot_of d c.rdst));
  words = words_read c p.outcome;
  irq = interrupts c p.outcome;
  site = p.site;
}

-- the device and the report once ring q's command has had its outcome
unfoldable pub finished : Device → ℕ → Command → Performed → Turned
finished d q c p = record { device = device_after d q c p; answer = Served (report_of d q c p) }

-- ring q, whose bytes are `ring`, is served: its command is taken and performed on its window
unfoldable pub served_of : Device → ℕ → List ℕ → List ℕ → List ℕ → List ℕ → TurnEnd
served_of d q ring memory pack pipe =
    let r = ring_of d q in
    let c = command_at ring r.cursor in
    let window = window_of r.window.start r.window.length memory in
    let p = performed_of c (is_full d.edition (slot_of d c.rdst)) ring window r.frame pack pipe d.limit in
    record {
      turned = finished d q c p.performed;
      memory = put_back r.window.start p.window memory;
      pipe = p.pipe;
    }

-- the first ready ring is served; if none is, the answer is idle
unfoldable pub picked_of : Device → Call → Option ℕ → TurnEnd
picked_of d call (Some q) = served_of d q (ring_in call q) call.memory call.pack call.pipe
picked_of d call None = unchanged d call Idle

-- a call that is not refused takes its turn
unfoldable pub judged_of : Device → Call → Result Unit Refusal → TurnEnd
judged_of d call (Ok sound) = picked_of d call (pick_in d call)
judged_of d call (Err why) = unchanged d call (Refused why)

-- the verdict on a call
unfoldable pub verdict_on : Device → Call → Result Unit Refusal
verdict_on d call =
    verdict_of d (length call.memory) (length call.ring0) (length call.ring1) (length call.ring2) (length call.ring3)
    (length call.pipe) call.pack

-- a turn
unfoldable pub turn_of : Device → Call → TurnEnd
turn_of d call = judged_of d call (verdict_on d call)

-- what the device's checks give a ring that is served
pub record Servable (d : Device) (q : ℕ) (memory : ℕ) (ring : List ℕ) (pipe : ℕ) : Type 0 where
  pub number : q < 4
  pub fits : (ring_of d q).window.start + (ring_of d q).window.length ≤ memory
  pub cursor : (ring_of d q).cursor ≤ 65536
  pub whole : is_whole ring (ring_of d q).cursor ≡ true
  pub short : length ring ≤ 65536
  pub room : 1020 ≤ pipe
