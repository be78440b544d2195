-- The whole job of docs/DEVICE.md.
use Rattle.std.specs.Prelude.{List, [], ◌∷◌, ◌++◌, ℕ, replicate}

-- a number below 256 as a word
abbrev word : ℕ → List ℕ
word n = n ∷ 0 ∷ 0 ∷ 0 ∷ []

-- n zero bytes
abbrev zeros : ℕ → List ℕ
zeros n = replicate n 0

-- a pair of the first section: start 0, length 16
abbrev window : List ℕ
window = word 0 ++ word 16

-- its 116 bytes: four windows; ring 0 emits on slot 3; ring 1 waits there for 1; rings 2 and 3, kernels and code are empty; four zero words
unfoldable pub whole_case : List ℕ
whole_case =
    (word 4 ++ window ++ window ++ window ++ window)
    ++ (word 16 ++ (0x22 ∷ 0x02 ∷ 0x03 ∷ 0x00 ∷ []) ++ zeros 12)
    ++ (word 20 ++ (0x22 ∷ 0x04 ∷ 0x03 ∷ 0x00 ∷ []) ++ zeros 12 ++ (0x01 ∷ 0x00 ∷ 0x00 ∷ 0x00 ∷ []))
    ++ word 0 ++ word 0 ++ word 0 ++ word 0
    ++ (word 4 ++ zeros 16)
