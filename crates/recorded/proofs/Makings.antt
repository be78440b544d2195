-- Laws of a recorded making of a fresh device made again.
-- Assumes nothing.
use Prim.Native.Nat.{ℕ}
use mathlib.Core.Path.{◌≡◌}
use mathlib.Core.Bool.{true, ◌&&◌}
use mathlib.Core.List.{List}
use lib.Dec.{eqb}
use borrow.Author.Tests.{eqb-true}
use Rattle.words.proofs.Choices.{both_left, both_right}
use Rattle.capi.specs.Image.{image_length}
use Rattle.capi.specs.Calls.{windows_length}
use Rattle.recorded.specs.Piece.{length_of}
use Rattle.recorded.specs.declared.fresh.Named.{Named}
use Rattle.recorded.specs.Fresh.{are_words, are_whole}

-- what the test of the pieces says
module _ (body : List ℕ) (named : Named) where
  windows_and_image : are_whole body named ≡ true → (length_of body 0 ≡ windows_length) × (length_of body 2 ≡ image_length)
  unfolding are_whole
  windows_and_image all =
      let windows = eqb (length_of body 0) windows_length in
      let image = eqb (length_of body 2) image_length in
      let numbers = eqb (length_of body 1) 8 && eqb (length_of body 4) 4 in
      let call = both_left (windows && image) numbers (both_left (windows && image && numbers) (are_words body named) all) in
      (eqb-true _ _ (both_left windows image call), eqb-true _ _ (both_right windows image call))

  pub whole_windows : are_whole body named ≡ true → length_of body 0 ≡ windows_length
  whole_windows all = (windows_and_image all).0

  pub whole_image : are_whole body named ≡ true → length_of body 2 ≡ image_length
  whole_image all = (windows_and_image all).1
