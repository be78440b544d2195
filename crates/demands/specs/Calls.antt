-- Calls one after another, each starting from the device that the last one left.
use Rattle.std.specs.Prelude.{ℕ, ◌+◌, ◌≡◌, Bool, false, ◌&&◌, cond, List, [], ◌∷◌, eqb, leb}
use Rattle.command.specs.declared.header.Command.{Command}
use Rattle.command.specs.Header.{command_at}
use Rattle.state.specs.declared.device.Device.{Device}
use Rattle.device.specs.declared.turn.Answer.{Answer}
use Rattle.state.specs.Device.{ring_of}
use Rattle.device.specs.Turn.{Call, ring_in, turn_of}
use Rattle.device.specs.Answer.{Values, answer_number, values_of}

-- the command at ring q's cursor
abbrev pub head_in : Device → Call → ℕ → Command
head_in d call q = command_at (ring_in call q) (ring_of d q).cursor

-- a call's answer
abbrev pub answer_of : Device → Call → Answer
answer_of d call = (turn_of d call).turned.answer

-- the device that a call leaves
abbrev pub left_by : Device → Call → Device
left_by d call = (turn_of d call).turned.device

-- a call's number: 0 served, 1 idle, 101 to 105 refused
abbrev pub number_in : Device → Call → ℕ
number_in d call = answer_number (answer_of d call)

-- the values that a call reports
abbrev pub values_in : Device → Call → Values
values_in d call = values_of (answer_of d call)

-- the ring that a call serves; 0 if it serves none
abbrev pub ring_served : Device → Call → ℕ
ring_served d call = (values_in d call).ring

-- the command that a call serves; ring 0's head if it serves none
abbrev pub command_served : Device → Call → Command
command_served d call = head_in d call (ring_served d call)

-- the answer is a refusal: its number is 101 or above
unfoldable pub is_refused : Answer → Bool
is_refused answer = leb 101 (answer_number answer)

-- the answer serves ring q
pub record ServesRing (q : ℕ) (answer : Answer) : Type 0 where
  pub served : answer_number answer ≡ 0
  pub ring : (values_of answer).ring ≡ q

-- 1 if the answer serves and this value of its report is n, else 0
unfoldable pub served_with : (Values → ℕ) → Answer → ℕ → ℕ
served_with value answer n = cond (eqb (answer_number answer) 0 && eqb n (value (values_of answer))) 1 0

-- how many of the calls serve and have n for this value of their report
unfoldable pub served_with_in : (Values → ℕ) → Device → List Call → ℕ → ℕ
served_with_in value d [] n = 0
served_with_in value d (call ∷ calls) n = served_with value (answer_of d call) n + served_with_in value (left_by d call) calls n

-- the device that the last of the calls leaves
unfoldable pub last_of : Device → List Call → Device
last_of d [] = d
last_of d (call ∷ calls) = last_of (left_by d call) calls

-- how many of the calls are not refused
unfoldable pub heard : Device → List Call → ℕ
heard d [] = 0
heard d (call ∷ calls) = cond (is_refused (answer_of d call)) 0 1 + heard (left_by d call) calls

-- each call, with the device that it starts from, is so
pub data EachCall (P : Device → Call → Type 0) : Device → List Call → Type 0 where
  none : {d : Device} → EachCall P d []
  more : {d : Device} {call : Call} {calls : List Call} → P d call → EachCall P (left_by d call) calls → EachCall P d (call ∷ calls)

-- each call that is not refused is so
abbrev pub EachHeard : (Call → Type 0) → Device → List Call → Type 0
EachHeard P d calls = EachCall (λ d call. is_refused (answer_of d call) ≡ false → P call) d calls

-- one of the calls serves ring q while its cursor is this
pub data Serves (q cursor : ℕ) : Device → List Call → Type 0 where
  here : {d : Device} {call : Call} {calls : List Call} → (ring_of d q).cursor ≡ cursor → ServesRing q (answer_of d call)
      → Serves q cursor d (call ∷ calls)
  later : {d : Device} {call : Call} {calls : List Call} → Serves q cursor (left_by d call) calls
      → Serves q cursor d (call ∷ calls)
