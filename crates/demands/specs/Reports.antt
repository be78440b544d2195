-- Demand 2: what is reported of a served command, and what it changes in the device.
use Rattle.std.specs.Prelude.{ℕ, ◌+◌, ◌≤◌, ◌<◌, ◌≡◌, true, ◌⊎◌, ◌↔◌, Some}
use Rattle.command.specs.declared.header.Command.{Command}
use Rattle.command.specs.Flags.{irq_bit, emit_bit}
use Rattle.command.specs.declared.opcode.Opcode.TheVariants.{ReadMem, SetFb}
use Rattle.kernel.specs.Site.{no_site}
use Rattle.command.specs.Frame.{held_by}
use Rattle.state.specs.declared.device.Device.{Device}
use Rattle.state.specs.Device.{Shaped, SlotsFit, ring_of, slot_of}
use Rattle.state.specs.PlusOne.{plus_one}
use Rattle.device.specs.Answer.{Values}
use Rattle.state.specs.Ready.{ready_at, next_ring}
use Rattle.device.specs.Turn.{Call, ring_in}
use Rattle.demands.specs.Calls.{head_in, left_by, number_in, values_in}
use Rattle.demands.specs.Counting.{CountsOne}

-- the command signals: its emit bit is set and the outcome is 0 or 6 to 14
abbrev pub Signals : Command → ℕ → Type 0
Signals c outcome = (emit_bit c.flags ≡ true) × ((outcome ≡ 0) ⊎ (6 ≤ outcome))

-- the command asks for an IRQ and the outcome is not 1 to 4
abbrev pub Interrupts : Command → ℕ → Type 0
Interrupts c outcome = (irq_bit c.flags ≡ true) × ((outcome ≡ 0) ⊎ (4 < outcome))

-- a READ_MEM with outcome 0
abbrev pub Reads : Command → ℕ → Type 0
Reads c outcome = (c.opcode ≡ Some ReadMem) × (outcome ≡ 0)

-- a SET_FB with outcome 0
abbrev pub SetsFrame : Command → ℕ → Type 0
SetsFrame c outcome = (c.opcode ≡ Some SetFb) × (outcome ≡ 0)

-- these values are reported of command c of ring q, and the device is left so
pub record Reported (d : Device) (q : ℕ) (c : Command) (v : Values) (after : Device) : Type 0 where
  -- a fence is one more than its slot held, from 4,294,967,295 it is 0, and the slot holds it now
  pub fence : Signals c v.outcome → v.fence ≡ plus_one (slot_of d c.rdst)
  pub signalled : Signals c v.outcome → slot_of after c.rdst ≡ v.fence
  -- else no fence is reported, and every slot stays
  pub no_fence : (Signals c v.outcome → ⊥) → v.fence ≡ 0
  pub no_signal : (Signals c v.outcome → ⊥) → (n : ℕ) → slot_of after n ≡ slot_of d n
  -- whether one was emitted is told apart
  pub emitted : (v.emitted ≡ true) ↔ Signals c v.outcome
  -- the other slots stay
  pub other_slots : (n : ℕ) → (n ≡ c.rdst → ⊥) → slot_of after n ≡ slot_of d n
  -- words read is len for a READ_MEM with outcome 0, else 0
  pub words : Reads c v.outcome → v.words ≡ c.len
  pub no_words : (Reads c v.outcome → ⊥) → v.words ≡ 0
  -- IRQ is reported exactly if bit 0 is set and the outcome is not 1 to 4
  pub irq : (v.irq ≡ true) ↔ Interrupts c v.outcome
  -- outcomes 0 to 10 tell of no stop; what 11 to 14 tell is `Stops.StoppedThread`
  pub no_stop : v.outcome ≤ 10 → v.site ≡ no_site
  -- the cursor moves past the command, and the window stays
  pub cursor : (ring_of after q).cursor ≡ (ring_of d q).cursor + c.size
  pub window : (ring_of after q).window ≡ (ring_of d q).window
  -- a SET_FB with outcome 0 leaves the ring the frame of its arguments; every other command leaves the frame as it was
  pub frame-set : SetsFrame c v.outcome → (ring_of after q).frame ≡ Some (held_by c)
  pub frame : (SetsFrame c v.outcome → ⊥) → (ring_of after q).frame ≡ (ring_of d q).frame
  -- the other rings stay
  pub other_rings : (n : ℕ) → (n ≡ q → ⊥) → ring_of after n ≡ ring_of d n
  -- the marker is the ring after the served one
  pub marker : after.marker ≡ next_ring q
  -- the limit and the edition stay
  pub limit : after.limit ≡ d.limit
  pub edition : after.edition ≡ d.edition
  -- the command is counted
  pub counts : CountsOne d q v.outcome after

-- a served ring was ready, and its head command is reported
pub record Serving (d : Device) (call : Call) (v : Values) : Type 0 where
  pub ring : v.ring < 4
  pub ready : ready_at d v.ring (ring_in call v.ring) ≡ true
  pub reported : Reported d v.ring (head_in d call v.ring) v (left_by d call)
  -- and the device that it leaves has the form of every device
  pub shaped : Shaped (left_by d call)
  pub slots : SlotsFit (left_by d call)

-- so it is with the values of every turn that serves
abbrev pub ReportsFrom : Device → Type 0
ReportsFrom d = (call : Call) → number_in d call ≡ 0 → Serving d call (values_in d call)

-- of every device of the right form with slots of 32 bits
unfoldable pub TurnReports : Type 0
TurnReports = (d : Device) → Shaped d → SlotsFit d → ReportsFrom d
