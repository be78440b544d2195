-- Where a kernel's code stands in its pack, and the words of a part of a pack.
-- Assumes nothing.
use mathlib.Core.Path.{◌≡◌, refl}
use mathlib.Core.List.{List}
use Prim.Native.Nat.{ℕ, ◌+◌, ◌*◌, ◌≤◌, ◌<◌, ◌^◌}
use native.Mathlib.Omega.{arith}
use lib.ListN.{length}
use lib.Seq.{get_or-drop}
use Rattle.std.specs.List.{between}
use Rattle.std.proofs.lemmas.List.{get_or_past}
use Rattle.std.proofs.lemmas.Slice.{between_to_end}
use Rattle.memory.specs.Place.{word_at}
use Rattle.memory.proofs.Places.{Bytes, word_fits}
use Rattle.pack.specs.Kernels.{kernel_count, pairs_start, first_word, kernel_of}

-- a kernel's code starts at a place that fits, whatever the pack holds
pub start_fits : (pack : List ℕ) (k : ℕ) → Bytes pack → (kernel_of pack k).start < 2 ^ 62
unfolding kernel_of kernel_count first_word
start_fits pack k bytes = omega (arith, word_fits pack 0 bytes, word_fits pack (pairs_start + 8 * k) bytes)

-- from the pack's end on a word is 0
pub word_past : (pack : List ℕ) (at : ℕ) → length pack ≤ at → word_at pack at ≡ 0
unfolding word_at
word_past pack at h =
    rw (
      get_or_past pack at 0 h,
      get_or_past pack (at + 1) 0 (omega arith),
      get_or_past pack (at + 2) 0 (omega arith),
      get_or_past pack (at + 3) 0 (omega arith),
    )
    refl

-- a word of the pack's part from `start` on
pub word_of_part : (pack : List ℕ) (start at : ℕ) → word_at (between start (length pack) pack) at ≡ word_at pack (start + at)
unfolding word_at
word_of_part pack start at =
    let e₁ : start + (at + 1) ≡ start + at + 1 = omega arith in
    let e₂ : start + (at + 2) ≡ start + at + 2 = omega arith in
    let e₃ : start + (at + 3) ≡ start + at + 3 = omega arith in
    rw (
      between_to_end pack start (length pack) (omega arith),
      get_or-drop start pack at 0,
      get_or-drop start pack (at + 1) 0,
      get_or-drop start pack (at + 2) 0,
      get_or-drop start pack (at + 3) 0,
      e₁,
      e₂,
      e₃,
    )
    refl
