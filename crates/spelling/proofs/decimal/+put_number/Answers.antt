use Rattle.std.proofs.Common.{arith}
use Rattle.spelling.proofs.DecimalLaws.{length_more, put-more}
use Rattle.spelling.proofs.decimal.+put_number.Goals as goal

pub returns : goal.returns
returns t c =
    record {
      stored = rw (put-more _ _ _ c.if-n-lt10.false, c.put_number-end.ensures.stored, c.put_number-end.ensures.place);
      place = omega (arith, c.put_number-end.ensures.place, length_more _ c.if-n-lt10.false);
    }
