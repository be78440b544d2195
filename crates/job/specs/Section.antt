-- A section of the input: a 32-bit count, then what it counts. A byte past the end of the input reads 0; such a section is too short.
use Rattle.std.specs.Prelude.{ℕ, ◌+◌, ◌*◌, Bool, List, length, leb}
use Rattle.memory.specs.Place.{word_at}
use Rattle.job.specs.declared.section.Section.{Section}

-- the section at a place: its content starts after the count, and each thing counted has `unit` bytes
unfoldable pub section_at : ℕ → List ℕ → ℕ → Section
section_at unit input at =
    record { start = at + 4; count = word_at input at; end = at + 4 + unit * word_at input at }

-- not too short: its count and its content are all there
abbrev pub is_whole : List ℕ → Section → Bool
is_whole input section = leb section.end (length input)
