-- What the device counts: the commands that each ring has taken, and the commands that had each outcome.
use Rattle.std.specs.Prelude.{ℕ, ◌%◌, ◌^◌, Bool, eqb, replicate, sum}
use Rattle.state.specs.declared.counts.Counts.{Counts}
use Rattle.state.specs.PlusOne.{plus_one_at}

-- nothing is counted yet: four counts of commands and fifteen of outcomes, all 0
abbrev pub no_counts : Counts
no_counts = record { commands = replicate 4 0; outcomes = replicate 15 0 }

-- a command of ring q has had an outcome: one more of the ring's commands, one more with the outcome
unfoldable pub counted : Counts → ℕ → ℕ → Counts
counted counts q outcome =
    record { commands = plus_one_at counts.commands q; outcomes = plus_one_at counts.outcomes outcome }

-- the sum of the four and the sum of the fifteen agree modulo 4,294,967,296
unfoldable pub balanced : Counts → Bool
balanced counts = eqb (sum counts.commands % 2 ^ 32) (sum counts.outcomes % 2 ^ 32)
