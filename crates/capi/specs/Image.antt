-- The image of a device: little-endian words. Each ring has seven, then come the 64 slots, the marker, the limit, the commands
-- that each ring has taken, a count for each outcome and the edition.
use Rattle.std.specs.Prelude.{cond, ℕ, zero, suc, ◌+◌, ◌*◌, List, [], ◌∷◌, ◌++◌, eqb, Option, Some, None}
use Rattle.words.specs.Bytes.{byte_of}
use Rattle.memory.specs.Place.{word_at}
use Rattle.command.specs.declared.frame.Frame.{Frame}
use Rattle.command.specs.Frame.{stride_of}
use Rattle.state.specs.declared.counts.Counts.{Counts}
use Rattle.state.specs.declared.edition.Edition.{Edition}
use Rattle.state.specs.declared.edition.Edition.TheVariants.{One, Two}
use Rattle.state.specs.declared.device.Window.{Window}
use Rattle.state.specs.declared.device.Ring.{Ring}
use Rattle.state.specs.declared.device.Device.{Device}
use Rattle.state.specs.Device.{device_of, ring_of}
use Rattle.state.specs.Edition.{edition_number}

-- how many words a ring has
abbrev pub ring_size : ℕ
ring_size = 7

-- the words where the slots, the marker, the limit, the counts and the edition stand, and how many words and bytes there are
abbrev pub slots_at : ℕ
slots_at = 4 * ring_size

abbrev pub marker_at : ℕ
marker_at = slots_at + 64

abbrev pub limit_at : ℕ
limit_at = marker_at + 1

abbrev pub commands_at : ℕ
commands_at = limit_at + 1

abbrev pub outcomes_at : ℕ
outcomes_at = commands_at + 4

abbrev pub edition_at : ℕ
edition_at = outcomes_at + 15

abbrev pub image_words : ℕ
image_words = edition_at + 1

abbrev pub image_length : ℕ
image_length = 4 * image_words

-- the bytes of words, the lowest byte of each first
unfoldable pub bytes_of : List ℕ → List ℕ
bytes_of [] = []
bytes_of (w ∷ ws) = byte_of 0 w ∷ byte_of 1 w ∷ byte_of 2 w ∷ byte_of 3 w ∷ bytes_of ws

-- word k of some bytes
abbrev pub word_in : List ℕ → ℕ → ℕ
word_in bytes k = word_at bytes (4 * k)

-- the n words from word k on
unfoldable pub words_in : List ℕ → ℕ → ℕ → List ℕ
words_in bytes k zero = []
words_in bytes k (suc n) = words_in bytes k n ++ (word_in bytes (k + n) ∷ [])

-- 1 of a held frame; 0 of no frame
abbrev pub held_of : Option Frame → ℕ
held_of None = 0
held_of (Some frame) = 1

-- a frame's base; 0 of no frame
abbrev pub base_of : Option Frame → ℕ
base_of None = 0
base_of (Some frame) = frame.base

-- a frame's format; 0 of no frame
abbrev pub format_of : Option Frame → ℕ
format_of None = 0
format_of (Some frame) = frame.format

-- a ring's seven words
unfoldable pub ring_words : Ring → List ℕ
ring_words r =
    r.window.start ∷ r.window.length ∷ r.cursor ∷ held_of r.frame ∷ base_of r.frame ∷ stride_of r.frame ∷ format_of r.frame ∷ []

-- the words of the four rings
unfoldable pub rings_words : Device → List ℕ
rings_words d = ring_words (ring_of d 0) ++ ring_words (ring_of d 1) ++ ring_words (ring_of d 2) ++ ring_words (ring_of d 3)

-- the words of the counts
unfoldable pub counts_words : Counts → List ℕ
counts_words counts = counts.commands ++ counts.outcomes

-- the words after the slots
abbrev pub last_words : Device → List ℕ
last_words d = d.marker ∷ d.limit ∷ (counts_words d.counts ++ (edition_number d.edition ∷ []))

-- a device's words
unfoldable pub words_of : Device → List ℕ
words_of d = rings_words d ++ d.slots ++ last_words d

-- a device's image
unfoldable pub encode : Device → List ℕ
encode d = bytes_of (words_of d)

-- the frame of four words: any first word but 0 holds one
unfoldable pub frame_of : ℕ → ℕ → ℕ → ℕ → Option Frame
frame_of held base stride format = cond (eqb held 0) None (Some (record { base = base; stride = stride; format = format }))

-- the window of the two words from word k on
unfoldable pub window_at : List ℕ → ℕ → Window
window_at bytes k = record { start = word_in bytes k; length = word_in bytes (k + 1) }

-- the ring of the seven words from word k on
unfoldable pub ring_at : List ℕ → ℕ → Ring
ring_at image k = record {
  window = window_at image k;
  cursor = word_in image (k + 2);
  frame = frame_of (word_in image (k + 3)) (word_in image (k + 4)) (word_in image (k + 5)) (word_in image (k + 6));
}

-- the counts of an image
unfoldable pub counts_in : List ℕ → Counts
counts_in image = record { commands = words_in image commands_at 4; outcomes = words_in image outcomes_at 15 }

-- the edition of a word: 2 is edition 2, any other edition 1
unfoldable pub edition_by : ℕ → Edition
edition_by word = cond (eqb word 2) Two One

-- the device of an image
unfoldable pub decode : List ℕ → Device
decode image =
    device_of (ring_at image 0 ∷ ring_at image 7 ∷ ring_at image 14 ∷ ring_at image 21 ∷ []) (words_in image slots_at 64) (word_in image marker_at)
    (word_in image limit_at) (counts_in image) (edition_by (word_in image edition_at))
