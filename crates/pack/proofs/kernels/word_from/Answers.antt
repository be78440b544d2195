use mathlib.Core.Path.{sym}
use Prim.Native.Nat.{◌+◌}
use native.Mathlib.Omega.{arith}
use Rattle.pack.proofs.Packs.{word_past, word_of_part}
use Rattle.pack.proofs.kernels.word_from.Goals as goal

pub returns-in-Some : goal.returns-in-Some
returns-in-Some c = rw (c.peek_word.ensures, c.in-Some.ensures.lookup.0.2) (word_of_part c.args.bytes.now c.args.start c.args.at)

pub returns-in-None : goal.returns-in-None
returns-in-None c = sym (word_past c.args.bytes.now (c.args.start + c.args.at) (omega (arith, c.in-None.ensures.lookup)))
