use mathlib.Core.Path.{◌≡◌}
use mathlib.Core.List.{◌++◌}
use native.Mathlib.Omega.{arith}
use Prim.Native.Nat.{◌+◌}
use lib.ListN.{length, length-append}
use Rattle.capi.specs.Image.{rings_words, last_words, words_of, encode, image_words, marker_at, slots_at}
use Rattle.capi.proofs.WordBytes.{words_then, words-whole}
use Rattle.capi.proofs.Sizes.{rings-length, counts-length}
use borrow.Author.Rules.{rules}
use Rattle.capi.proofs.image.put_device.Goals as goal

pub returns : goal.returns
unfolding words_of encode
returns c =
    let m = c.args.image.now in
    let d = c.args.d in
    let full : length d.slots ≡ 64 = search rules in
    let commands : length d.counts.commands ≡ 4 = search rules in
    let outcomes : length d.counts.outcomes ≡ 15 = search rules in
    let long = rings-length d in
    let counts = counts-length d commands outcomes in
    let next : marker_at ≡ 0 + length (rings_words d ++ d.slots) = simp length-append (omega arith) in
    let size : length (rings_words d ++ d.slots ++ last_words d) ≡ image_words = simp length-append (omega arith) in
    let slots-put = words_then m 0 (rings_words d) slots_at d.slots (omega arith) c.put_rings.ensures c.put_words.ensures in
    words-whole m (words_of d) (omega (arith, size))
    (words_then m 0 (rings_words d ++ d.slots) marker_at (last_words d) next slots-put c.put_last.ensures)
