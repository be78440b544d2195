-- What the calls leave in the bytes that they are lent, and what they answer.
use Rattle.std.specs.Prelude.{ℕ, ◌*◌, ◌≡◌, Bool, cond, List, [], ◌∷◌, eqb, length}
use Rattle.state.specs.declared.device.Window.{Window}
use Rattle.state.specs.declared.device.Device.{Device}
use Rattle.state.specs.declared.edition.Start.{Start}
use Rattle.state.specs.declared.edition.Start.TheVariants.{Edition1}
use Rattle.device.specs.declared.fresh.Fresh.{Fresh}
use Rattle.device.specs.declared.turn.Answer.{Answer}
use Rattle.state.specs.Device.{default_limit}
use Rattle.device.specs.Fresh.{fresh_with}
use Rattle.device.specs.Answer.{answer_number, making_number}
use Rattle.device.specs.Turn.{Call, TurnEnd, turn_of}
use Rattle.capi.specs.Image.{image_length, encode, decode, window_at}
use Rattle.capi.specs.Report.{report_length, report_bytes}

-- an image and an answer
pub record Freshened : Type 0 where
  pub image : List ℕ
  pub answer : ℕ

-- what a function leaves in the image and returns is this
pub record Freshens (i : List ℕ) (r : ℕ) (f : Freshened) : Type 0 where
  pub image : i ≡ f.image
  pub answer : r ≡ f.answer

-- four windows of two words
abbrev pub windows_length : ℕ
windows_length = 4 * 8

-- the four windows of their bytes
abbrev pub windows_in : List ℕ → List Window
windows_in windows = window_at windows 0 ∷ window_at windows 2 ∷ window_at windows 4 ∷ window_at windows 6 ∷ []

-- a fresh device of four windows, with a limit and a start named
abbrev pub fresh_for : List ℕ → ℕ → ℕ → Start → Fresh
fresh_for windows memory limit start = fresh_with memory (windows_in windows) limit start

-- what a making gives: its device's image and its number
abbrev pub freshened : Fresh → Freshened
freshened fresh = record { image = encode fresh.device; answer = making_number fresh.answer }

-- the image of a fresh device, with a limit and a start named; 201 for an image of the wrong length, else 203 for windows of the
-- wrong length
unfoldable pub fresh_with_call : List ℕ → List ℕ → ℕ → ℕ → Start → Freshened
fresh_with_call image windows memory limit start =
    cond (eqb (length image) image_length)
    (cond (eqb (length windows) windows_length)
    (freshened (fresh_for windows memory limit start))
    (record { image = image; answer = 203 }))
    (record { image = image; answer = 201 })

-- with neither named: edition 1
abbrev pub fresh_call : List ℕ → List ℕ → ℕ → Freshened
fresh_call image windows memory = fresh_with_call image windows memory default_limit Edition1

-- an image, memory, pipe and report, and an answer
pub record Called : Type 0 where
  pub image : List ℕ
  pub memory : List ℕ
  pub pipe : List ℕ
  pub report : List ℕ
  pub answer : ℕ

-- what a function leaves and returns is this
pub record Leaves (i m p t : List ℕ) (r : ℕ) (c : Called) : Type 0 where
  pub image : i ≡ c.image
  pub memory : m ≡ c.memory
  pub pipe : p ≡ c.pipe
  pub report : t ≡ c.report
  pub answer : r ≡ c.answer

-- a command was taken
abbrev pub is_served : Answer → Bool
is_served answer = eqb (answer_number answer) 0

-- a served turn's device is put into the image; any other turn leaves it byte for byte
unfoldable pub image_after : List ℕ → Device → Answer → List ℕ
image_after image d answer = cond (is_served answer) (encode d) image

-- a turn's results, over the image that it started from
unfoldable pub called_of : List ℕ → TurnEnd → Called
called_of image a = record {
  image = image_after image a.turned.device a.turned.answer;
  memory = a.memory;
  pipe = a.pipe;
  report = report_bytes a.turned.answer;
  answer = answer_number a.turned.answer;
}

-- nothing is changed
unfoldable pub untouched : List ℕ → List ℕ → Call → ℕ → Called
untouched image report call answer =
    record { image = image; memory = call.memory; pipe = call.pipe; report = report; answer = answer }

-- one turn of the image's device; 201 for an image of the wrong length, else 202 for a report of the wrong length
unfoldable pub turn_call : List ℕ → List ℕ → Call → Called
turn_call image report call =
    cond (eqb (length image) image_length)
    (cond (eqb (length report) report_length)
    (called_of image (turn_of (decode image) call))
    (untouched image report call 202))
    (untouched image report call 201)
