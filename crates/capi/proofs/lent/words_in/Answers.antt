use Prim.Native.Nat.{◌+◌}
use Rattle.std.proofs.Common.{rules}
use Rattle.capi.specs.Image.{word_in}
use Rattle.capi.proofs.Gathered.{gathered}
use Rattle.capi.proofs.WordBytes.{words_in_each}
use Rattle.capi.proofs.lent.words_in.Goals as goal

pub returns : goal.returns
returns g c =
    let made = c.from_fn.ensures.items in
    let bytes = c.args.bytes.now in
    words_in_each bytes c.args.k g.row.N c.from_fn.result made.long
    (gathered _ _ (λ i. word_in bytes (c.args.k + i)) (λ i b q call. search rules) made 0)
