use Rattle.std.proofs.Common.{arith, length-append}
use Rattle.spelling.proofs.DecimalLaws.{digits_of_word}
use Rattle.spelling.proofs.Stores.{sets_append}
use Rattle.spelling.proofs.decimal.put_field.Goals as goal

pub returns : goal.returns
returns c = (record { stored = rw (sets_append, c.put_number-end.ensures.stored, c.put_number-end.ensures.place); place = simp length-append (omega arith) }, omega (arith, digits_of_word c.args.n (omega arith)))
