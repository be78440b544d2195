-- The report of a turn: little-endian words.
use Rattle.std.specs.Prelude.{ℕ, ◌*◌, cond, List, [], ◌∷◌}
use Rattle.device.specs.declared.turn.Answer.{Answer}
use Rattle.device.specs.Answer.{answer_number, values_of}
use Rattle.capi.specs.Image.{bytes_of}

-- eleven words
abbrev pub report_length : ℕ
report_length = 4 * 11

-- the answer's number, then the ring, outcome, fence, words read and IRQ that are reported, whether a fence was emitted, and the
-- address, place, group and thread of a stop
unfoldable pub report_words : Answer → List ℕ
report_words answer =
    let v = values_of answer in
    answer_number answer ∷ v.ring ∷ v.outcome ∷ v.fence ∷ v.words ∷ cond v.irq 1 0 ∷ cond v.emitted 1 0
    ∷ v.site.address ∷ v.site.place ∷ v.site.group ∷ v.site.thread ∷ []

-- its bytes
unfoldable pub report_bytes : Answer → List ℕ
report_bytes answer = bytes_of (report_words answer)
