use Rattle.std.proofs.Common.{arith, ap, length, length-take}
use Rattle.spelling.proofs.Stores.{put_front}
use Rattle.spelling.proofs.line.Line.push_field.Goals as goal

pub returns-clause-pushed : goal.returns-clause-pushed
returns-clause-pushed c =
    let put = c.put_field-self-inside.ensures in
    rw (← c.self.view_is) (put_front _ _ _ _ _ (omega (arith, put.0.place, put.1, simp length-take at (ap length c.self.view_is))) put.0)
