use mathlib.Core.Path.{◌≡◌}
use mathlib.Core.List.{[], ◌∷◌, ◌++◌}
use native.Mathlib.Omega.{arith}
use Prim.Native.Nat.{◌+◌}
use lib.ListN.{length, length-append}
use Rattle.state.specs.Edition.{edition_number}
use Rattle.capi.specs.Image.{counts_words, edition_at, commands_at, marker_at}
use Rattle.capi.proofs.WordBytes.{words_then}
use Rattle.capi.proofs.Sizes.{counts-length}
use borrow.Author.Rules.{rules}
use Rattle.capi.proofs.image.put_last.Goals as goal

pub returns : goal.returns
returns c =
    let m = c.args.image.now in
    let d = c.args.d in
    let commands : length d.counts.commands ≡ 4 = search rules in
    let outcomes : length d.counts.outcomes ≡ 15 = search rules in
    let numbers = d.marker ∷ d.limit ∷ [] in
    let next : edition_at ≡ marker_at + length (numbers ++ counts_words d.counts) =
    simp length-append (omega (arith, counts-length d commands outcomes)) in
    let counts-put = words_then m marker_at numbers commands_at (counts_words d.counts) (omega arith) c.put_words.ensures c.put_counts.ensures in
    words_then m marker_at (numbers ++ counts_words d.counts) edition_at (edition_number d.edition ∷ []) next counts-put
    (rw c.into.ensures at c.put_words-2.ensures)
