-- How many words and bytes an image has.
-- Assumes nothing.
use mathlib.Core.Path.{◌≡◌, refl}
use mathlib.Core.List.{List, [], ◌++◌}
use Prim.Native.Nat.{ℕ, zero, suc, ◌*◌}
use native.Mathlib.Omega.{arith}
use lib.ListN.{length, length-append}
use Rattle.state.specs.declared.device.Device.{Device}
use Rattle.state.specs.Device.{Shaped, ring_of}
use Rattle.capi.specs.Image.{ring_words, rings_words, counts_words, words_of, encode, image_words, slots_at}
use Rattle.capi.specs.Inverse.{EncodeLength}
use Rattle.capi.proofs.WordBytes.{bytes-length}

pub rings-length : (d : Device) → length (rings_words d) ≡ slots_at
unfolding rings_words ring_words
rings-length d = refl

-- the words of the first n rings
unfoldable pub rings_below : Device → ℕ → List ℕ
rings_below d zero = []
rings_below d (suc n) = rings_below d n ++ ring_words (ring_of d n)

pub rings_below-length : (d : Device) (n : ℕ) → length (rings_below d n) ≡ 7 * n
unfolding rings_below ring_words
rings_below-length d zero = refl
rings_below-length d (suc n) = simp length-append (omega (arith, rings_below-length d n))

pub all_rings : (d : Device) → rings_below d 4 ≡ rings_words d
unfolding rings_below rings_words
all_rings d = refl

pub counts-length : (d : Device) → length d.counts.commands ≡ 4 → length d.counts.outcomes ≡ 15 → length (counts_words d.counts) ≡ 19
unfolding counts_words
counts-length d commands outcomes = simp length-append (omega arith)

pub words-length : (d : Device) → Shaped d → length (words_of d) ≡ image_words
unfolding words_of
words-length d shaped = simp length-append (omega (arith, rings-length d, shaped.slots, counts-length d shaped.commands shaped.outcomes))

pub encode-length : EncodeLength
unfolding encode
encode-length d formed = omega (arith, bytes-length (words_of d), words-length d formed.shaped)
