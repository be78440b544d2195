-- What the examples worked by hand, P4 to P9, speak of.
use Rattle.std.specs.Prelude.{ℕ, List, [], ◌∷◌, ◌++◌, length}
use Rattle.words.specs.Bytes.{byte_of}
use Rattle.instruction.specs.Decode.{decoded}
use Rattle.kernel.specs.declared.thread.Thread.{Thread}
use Rattle.kernel.specs.Registers.{scalar_of}
use Rattle.kernel.specs.Thread.{started}
use Rattle.kernel.specs.Step.{executed}

-- a thread at its start, alone in its dispatch
abbrev pub fresh_thread : Thread
fresh_thread = started 0 0 1 1

-- a thread after one instruction
unfoldable pub after_word : ℕ → Thread → Thread
after_word w t = (executed 4 (decoded w) t []).stepped.thread

-- what scalar register n of a thread reads
abbrev pub scalar : ℕ → Thread → ℕ
scalar n t = scalar_of t.registers n

-- a word's bytes, and those of words one after another
abbrev pub word_bytes : ℕ → List ℕ
word_bytes w = byte_of 0 w ∷ byte_of 1 w ∷ byte_of 2 w ∷ byte_of 3 w ∷ []

unfoldable pub bytes_of_words : List ℕ → List ℕ
bytes_of_words [] = []
bytes_of_words (w ∷ words) = word_bytes w ++ bytes_of_words words

-- the pack of one kernel of these words
abbrev pub pack_of_words : List ℕ → List ℕ
pack_of_words words = bytes_of_words (1 ∷ 0 ∷ length words ∷ length words ∷ words)

-- and of one word
abbrev pub pack_of : ℕ → List ℕ
pack_of w = pack_of_words (w ∷ [])
