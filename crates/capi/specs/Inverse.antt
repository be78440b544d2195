-- An image says all of a device, and a device all of an image in normal form.
use Rattle.std.specs.Prelude.{ℕ, ◌+◌, ◌*◌, ◌^◌, ◌<◌, ◌≡◌, List, length, get_or}
use Rattle.state.specs.declared.device.Device.{Device}
use Rattle.state.specs.Device.{Shaped}
use Rattle.capi.specs.Image.{image_length, edition_at, word_in, words_of, encode, decode}

-- lent bytes are bytes
abbrev pub OfBytes : List ℕ → Type 0
OfBytes bytes = (i : ℕ) → get_or bytes i 0 < 2 ^ 8

-- four rings, 64 slots, four and fifteen counts, and each of its words below 2^32: every device has this by its type, see `of_every_device`
pub record Formed (d : Device) : Type 0 where
  pub shaped : Shaped d
  pub fit : (k : ℕ) → get_or (words_of d) k 0 < 2 ^ 32

-- a frame's four words are in normal form: 1 and any three words, or four zeros
pub data NormalFrame : ℕ → ℕ → ℕ → ℕ → Type 0 where
  held : {base stride format : ℕ} → NormalFrame 1 base stride format
  unset : NormalFrame 0 0 0 0

-- an edition's word is in normal form: 1 or 2
pub data NormalEdition : ℕ → Type 0 where
  one : NormalEdition 1
  two : NormalEdition 2

-- an image of the right length, with each ring's frame and the edition in normal form
pub record Normal (image : List ℕ) : Type 0 where
  pub long : length image ≡ image_length
  pub bytes : OfBytes image
  pub frames : (q : ℕ) → q < 4
      → NormalFrame (word_in image (7 * q + 3)) (word_in image (7 * q + 4)) (word_in image (7 * q + 5)) (word_in image (7 * q + 6))
  pub edition : NormalEdition (word_in image edition_at)

-- every image has the right length
abbrev pub EncodeLength : Type 0
EncodeLength = (d : Device) → Formed d → length (encode d) ≡ image_length

-- a device put into an image and read back is the same
abbrev pub DecodeEncode : Type 0
DecodeEncode = (d : Device) → Formed d → decode (encode d) ≡ d

-- an image in normal form, read and written again, is the same byte for byte
abbrev pub EncodeDecode : Type 0
EncodeDecode = (image : List ℕ) → Normal image → encode (decode image) ≡ image
