-- Demand 1: what a turn leaves as it was.
use Rattle.std.specs.Prelude.{ℕ, ◌+◌, ◌*◌, ◌≤◌, ◌<◌, ◌≡◌, List, ◌⊎◌, length, get_or}
use Rattle.state.specs.declared.device.Window.{Window}
use Rattle.state.specs.declared.device.Device.{Device}
use Rattle.state.specs.Device.{ring_of}
use Rattle.device.specs.Answer.{no_values, values_of}
use Rattle.device.specs.Turn.{Call, TurnEnd, turn_of}
use Rattle.demands.specs.Calls.{left_by, number_in, values_in, ring_served}

-- device, memory and pipe are as they were, and nothing is reported: zeros, no IRQ, no fence emitted and no stop
pub record Same (d : Device) (call : Call) (end : TurnEnd) : Type 0 where
  pub device : end.turned.device ≡ d
  pub memory : end.memory ≡ call.memory
  pub pipe : end.pipe ≡ call.pipe
  pub values : values_of end.turned.answer ≡ no_values

-- memory, pipe and every frame are as they were
pub record SameBytes (d : Device) (call : Call) (end : TurnEnd) : Type 0 where
  pub memory : end.memory ≡ call.memory
  pub pipe : end.pipe ≡ call.pipe
  pub frame : (q : ℕ) → (ring_of end.turned.device q).frame ≡ (ring_of d q).frame

-- place i is outside the window
abbrev pub OutsideOf : Window → ℕ → Type 0
OutsideOf window i = (i < window.start) ⊎ (window.start + window.length ≤ i)

-- the pipe keeps its length, and its bytes past the words read
pub record PipeKept (words : ℕ) (pipe₀ pipe₁ : List ℕ) : Type 0 where
  pub long : length pipe₁ ≡ length pipe₀
  pub rest : (i : ℕ) → 4 * words ≤ i → get_or pipe₁ i 0 ≡ get_or pipe₀ i 0

-- of a turn on any input
pub record Keeps (d : Device) (call : Call) : Type 0 where
  -- a refused call changes nothing
  pub refused : 101 ≤ number_in d call → Same d call (turn_of d call)
  -- an idle one neither
  pub idle : number_in d call ≡ 1 → Same d call (turn_of d call)
  -- outcomes 1 to 10 change no memory, pipe or frame
  pub faults : number_in d call ≡ 0 → 1 ≤ (values_in d call).outcome → (values_in d call).outcome ≤ 10
      → SameBytes d call (turn_of d call)
  -- no byte outside the served ring's window changes
  pub outside : number_in d call ≡ 0 → (i : ℕ) → OutsideOf (ring_of d (ring_served d call)).window i
      → get_or (turn_of d call).memory i 0 ≡ get_or call.memory i 0
  -- the memory keeps its length
  pub long : length (turn_of d call).memory ≡ length call.memory
  -- the pipe keeps its length, and its bytes past the words read
  pub pipe : number_in d call ≡ 0 → PipeKept (values_in d call).words call.pipe (turn_of d call).pipe
  -- no turn, served, idle or refused, changes the limit or the edition
  pub limit : (left_by d call).limit ≡ d.limit
  pub edition : (left_by d call).edition ≡ d.edition

unfoldable pub TurnKeeps : Type 0
TurnKeeps = (d : Device) (call : Call) → Keeps d call
