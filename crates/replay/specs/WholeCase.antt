-- The whole job of docs/DEVICE.md: the text that it prints.
use Rattle.std.specs.Prelude.{◌≡◌, [], ◌∷◌}
use Rattle.job.specs.WholeCase.{whole_case}
use Rattle.replay.specs.Transcript.{transcript_of}

-- the bytes of three lines, each with its newline: `1 0 0 1 0`, `2 1 0 0 0` and `idle 2`
abbrev pub WholeCase : Type 0
WholeCase =
    transcript_of whole_case
    ≡ 49 ∷ 32 ∷ 48 ∷ 32 ∷ 48 ∷ 32 ∷ 49 ∷ 32 ∷ 48 ∷ 10
    ∷ 50 ∷ 32 ∷ 49 ∷ 32 ∷ 48 ∷ 32 ∷ 48 ∷ 32 ∷ 48 ∷ 10
    ∷ 105 ∷ 100 ∷ 108 ∷ 101 ∷ 32 ∷ 50 ∷ 10 ∷ []
