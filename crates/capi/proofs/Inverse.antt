-- An image says all of a device, and a device all of an image in normal form.
-- Assumes nothing.
use Rattle.std.proofs.Common.{Option, Some, None}
use mathlib.Core.Path.{◌≡◌, refl, ap, ◌∙◌}
use mathlib.Core.List.{List, [], ◌∷◌, ◌++◌, append_assoc}
use Prim.Native.Nat.{ℕ, ◌+◌, ◌≤◌}
use native.Mathlib.Nat.{add-zero, zero-add}
use native.Mathlib.Omega.{arith}
use lib.ListN.{length, get_or, take, drop}
use lib.Seq.{take_all, take_at, drop_at, drop-append-add}
use Rattle.command.specs.declared.frame.Frame.{Frame}
use Rattle.command.specs.Frame.{stride_of}
use Rattle.state.specs.declared.device.Ring.{Ring}
use Rattle.state.specs.declared.edition.Edition.{Edition}
use Rattle.state.specs.declared.edition.Edition.TheVariants.{One, Two}
use Rattle.state.specs.Device.{empty_window, fresh_ring, ring_of}
use Rattle.state.specs.Edition.{edition_number}
use Rattle.capi.specs.Image.{word_in, words_in, held_of, base_of, format_of, ring_words, rings_words, counts_words, words_of, encode, frame_of, window_at, ring_at, counts_in, last_words, edition_by, decode, image_length, image_words, edition_at, outcomes_at, commands_at, limit_at, marker_at, slots_at}
use Rattle.capi.specs.Inverse.{Normal, NormalFrame, held, unset, NormalEdition, one, two, DecodeEncode, EncodeDecode}
use Rattle.capi.proofs.Sizes.{words-length, counts-length}
use Rattle.capi.proofs.WordBytes.{words_in-bytes, words_in-append, bytes_of_words_in}

-- four are their list
four : {B : Type 0} (x : B) (ys : List B) → length ys ≡ 4 → get_or ys 0 x ∷ get_or ys 1 x ∷ get_or ys 2 x ∷ get_or ys 3 x ∷ [] ≡ ys
four x (a ∷ b ∷ c ∷ d ∷ []) h = refl
four x [] h = absurd (omega arith)
four x (a ∷ []) h = absurd (omega arith)
four x (a ∷ b ∷ []) h = absurd (omega arith)
four x (a ∷ b ∷ c ∷ []) h = absurd (omega arith)
four x (a ∷ b ∷ c ∷ d ∷ e ∷ ys) h = absurd (omega arith)

frame_back : (f : Option Frame) → frame_of (held_of f) (base_of f) (stride_of f) (format_of f) ≡ f
unfolding frame_of
frame_back None = refl
frame_back (Some frame) = refl

edition-back : (e : Edition) → edition_by (edition_number e) ≡ e
unfolding edition_by
edition-back One = refl
edition-back Two = refl

-- a ring is read back from its seven words
ring-back : (image : List ℕ) (k : ℕ) (r : Ring) → words_in image k 7 ≡ ring_words r → ring_at image k ≡ r
unfolding words_in ring_words ring_at window_at
ring-back image k r e =
    let words = rw (add-zero k) at e in
    let w0 : word_in image k ≡ r.window.start = cc words in
    let w1 : word_in image (k + 1) ≡ r.window.length = cc words in
    let w2 : word_in image (k + 2) ≡ r.cursor = cc words in
    let w3 : word_in image (k + 3) ≡ held_of r.frame = cc words in
    let w4 : word_in image (k + 4) ≡ base_of r.frame = cc words in
    let w5 : word_in image (k + 5) ≡ stride_of r.frame = cc words in
    let w6 : word_in image (k + 6) ≡ format_of r.frame = cc words in
    rw (w0, w1, w2, w3, w4, w5, w6, frame_back r.frame)

-- the marker and the limit are two words in a row
marker_and_limit : (image : List ℕ) → word_in image marker_at ∷ word_in image limit_at ∷ [] ≡ words_in image marker_at 2
unfolding words_in
marker_and_limit image = refl

numbers-back : (image : List ℕ) (marker limit : ℕ) → words_in image marker_at 2 ≡ marker ∷ limit ∷ []
    → (word_in image marker_at ≡ marker) × (word_in image limit_at ≡ limit)
numbers-back image marker limit e = let words = marker_and_limit image ∙ e in (cc words, cc words)

-- the edition is one word
edition-word : (image : List ℕ) → word_in image edition_at ∷ [] ≡ words_in image edition_at 1
unfolding words_in
edition-word image = refl

pub decode-encode : DecodeEncode
unfolding decode encode words_of rings_words ring_words ring_of counts_words counts_in
decode-encode d formed =
    let shaped = formed.shaped in
    let size = words-length d shaped in
    let row : (k n : ℕ) → k + n ≤ image_words → words_in (encode d) k n ≡ take n (drop k (rings_words d ++ d.slots ++ last_words d)) =
    λ k n inside. words_in-bytes (words_of d) formed.fit k n (omega arith) in
    let past-slots : (n k : ℕ) → take n (drop (64 + k) (d.slots ++ last_words d)) ≡ take n (drop k (last_words d)) =
    λ n k. ap (take n) (rw shaped.slots at (drop-append-add d.slots (last_words d) k)) in
    let slots : words_in (encode d) slots_at 64 ≡ d.slots = row slots_at 64 (omega arith) ∙ take_at d.slots (last_words d) 64 shaped.slots in
    let edition-words = edition_number d.edition ∷ [] in
    let after-commands = d.counts.outcomes ++ edition-words in
    let counts-then = append_assoc d.counts.commands d.counts.outcomes edition-words in
    let numbers = numbers-back (encode d) d.marker d.limit (row marker_at 2 (omega arith) ∙ past-slots 2 0) in
    let commands : words_in (encode d) commands_at 4 ≡ d.counts.commands =
    row commands_at 4 (omega arith) ∙ past-slots 4 2 ∙ ap (take 4) counts-then ∙ take_at d.counts.commands after-commands 4 shaped.commands in
    let outcomes : words_in (encode d) outcomes_at 15 ≡ d.counts.outcomes =
    row outcomes_at 15 (omega arith) ∙ past-slots 15 6 ∙ ap (λ rest. take 15 (drop 4 rest)) counts-then
    ∙ ap (take 15) (drop_at d.counts.commands after-commands 4 shaped.commands)
    ∙ take_at d.counts.outcomes edition-words 15 shaped.outcomes in
    let last : words_in (encode d) edition_at 1 ≡ edition-words =
    row edition_at 1 (omega arith) ∙ past-slots 1 21
    ∙ ap (take 1) (drop_at (counts_words d.counts) edition-words 19 (counts-length d shaped.commands shaped.outcomes)) in
    let edition : word_in (encode d) edition_at ≡ edition_number d.edition = cc (edition-word (encode d) ∙ last) in
    rw (
      ring-back (encode d) 0 (ring_of d 0) (row 0 7 (omega arith)),
      ring-back (encode d) 7 (ring_of d 1) (row 7 7 (omega arith)),
      ring-back (encode d) 14 (ring_of d 2) (row 14 7 (omega arith)),
      ring-back (encode d) 21 (ring_of d 3) (row 21 7 (omega arith)),
      slots,
      numbers.0,
      numbers.1,
      commands,
      outcomes,
      edition,
      edition-back d.edition,
      four (fresh_ring empty_window) d.rings shaped.rings,
    )

frame-words : {h b s f : ℕ} → NormalFrame h b s f
    → held_of (frame_of h b s f) ∷ base_of (frame_of h b s f) ∷ stride_of (frame_of h b s f) ∷ format_of (frame_of h b s f) ∷ [] ≡ h ∷ b ∷ s ∷ f ∷ []
unfolding frame_of
frame-words held = refl
frame-words unset = refl

edition_number_in : {w : ℕ} → NormalEdition w → edition_number (edition_by w) ≡ w
unfolding edition_by
edition_number_in one = refl
edition_number_in two = refl

-- a ring in normal form has the seven words that it was read from
ring_words_in : (image : List ℕ) (k : ℕ)
    → NormalFrame (word_in image (k + 3)) (word_in image (k + 4)) (word_in image (k + 5)) (word_in image (k + 6)) → ring_words (ring_at image k) ≡ words_in image k 7
unfolding words_in ring_words ring_at window_at
ring_words_in image k normal = rw (add-zero k, frame-words normal)

-- a row of words read where another ends
joined : (image : List ℕ) (k n : ℕ) {xs ys : List ℕ} → xs ≡ words_in image 0 k → ys ≡ words_in image k n → xs ++ ys ≡ words_in image 0 (k + n)
joined image k n first second = rw (first, second) (rw (zero-add k) at (words_in-append image 0 k n))

counts-back : (image : List ℕ) → counts_words (counts_in image) ≡ words_in image commands_at 19
unfolding counts_words counts_in
counts-back image = words_in-append image commands_at 4 15

-- the words after the slots are those that they were read from
last-back : (image : List ℕ) → NormalEdition (word_in image edition_at) → last_words (decode image) ≡ words_in image marker_at 22
unfolding decode
last-back image normal =
    let from-counts : counts_words (counts_in image) ++ (edition_number (edition_by (word_in image edition_at)) ∷ []) ≡ words_in image commands_at 20 =
    rw (counts-back image, edition_number_in normal, edition-word image) (words_in-append image commands_at 19 1) in
    rw from-counts (rw (← marker_and_limit image) at (words_in-append image marker_at 2 20))

all_words : (image : List ℕ) → Normal image → words_of (decode image) ≡ words_in image 0 image_words
unfolding words_of rings_words decode ring_of
all_words image normal =
    let r0 = ring_words_in image 0 (normal.frames 0 (omega arith)) in
    let r1 = ring_words_in image 7 (normal.frames 1 (omega arith)) in
    let r2 = ring_words_in image 14 (normal.frames 2 (omega arith)) in
    let r3 = ring_words_in image 21 (normal.frames 3 (omega arith)) in
    let rings = joined image 21 7 (joined image 14 7 (joined image 7 7 r0 r1) r2) r3 in
    joined image marker_at 22 (joined image slots_at 64 rings refl) (last-back image normal.edition)

pub encode-decode : EncodeDecode
unfolding encode
encode-decode image normal =
    rw (all_words image normal, bytes_of_words_in image normal.bytes image_words (omega (arith, normal.long)))
    (take_all image_length image (omega (arith, normal.long)))
