-- How many calls of each kind were made again, and how many differ. Each count is a word.
use Rattle.std.specs.Prelude.{ℕ, ◌+◌, ◌*◌, Bool, true, false, cond, ◌&&◌, eqb, leb}
use Rattle.words.specs.Arithmetic.{sum}
use Rattle.recorded.specs.declared.call.Seen.{Seen}
use Rattle.recorded.specs.declared.call.Seen.TheVariants.{Fresh, Turn, Damaged}
use Rattle.compare.specs.declared.tally.Tally.{Tally}

-- of these counts
abbrev pub tally_of : ℕ → ℕ → ℕ → ℕ → ℕ → Tally
tally_of fresh served idle refused differ =
    record { fresh = fresh; served = served; idle = idle; refused = refused; differ = differ }

-- one more
abbrev pub more : ℕ → ℕ
more n = sum 32 n 1

-- one more made
abbrev pub with_fresh : Tally → Tally
with_fresh t = tally_of (more t.fresh) t.served t.idle t.refused t.differ

-- one more turn: status 0 is served, 1 idle, any other refused
unfoldable pub with_turn : Tally → ℕ → Tally
with_turn t status =
    cond (eqb status 0) (tally_of t.fresh (more t.served) t.idle t.refused t.differ)
    (cond (eqb status 1) (tally_of t.fresh t.served (more t.idle) t.refused t.differ)
    (tally_of t.fresh t.served t.idle (more t.refused) t.differ))

-- one more that differs, unless it is the same
unfoldable pub judged : Tally → Bool → Tally
judged t true = t
judged t false = tally_of t.fresh t.served t.idle t.refused (more t.differ)

-- one more call; a damaged record differs
unfoldable pub counted : Tally → Seen → Tally
counted t (Fresh same) = judged (with_fresh t) same
counted t (Turn status same) = judged (with_turn t status) same
counted t Damaged = judged t false

-- a turn was served, and at least a tenth of the turns were
unfoldable pub enough_served : Tally → Bool
enough_served t = leb 1 t.served && leb (t.served + t.idle + t.refused) (10 * t.served)
