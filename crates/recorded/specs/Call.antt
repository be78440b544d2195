-- A recorded call, made again.
use Rattle.std.specs.Prelude.{ℕ, cond, List, eqb}
use Rattle.memory.specs.Place.{word_at}
use Rattle.recorded.specs.declared.call.Seen.{Seen}
use Rattle.recorded.specs.declared.call.Seen.TheVariants.{Damaged}
use Rattle.recorded.specs.declared.fresh.Named.TheVariants.{Nothing, Limit, LimitAndFirst}
use Rattle.recorded.specs.Fresh.{fresh_seen}
use Rattle.recorded.specs.Turn.{turn_seen}

-- by its first word: 0 makes a fresh device, 1 is a turn, 2 makes a fresh device with a limit named, 3 one of edition 2, any
-- other is damaged
unfoldable pub call_seen : List ℕ → Seen
call_seen body =
    cond (eqb (word_at body 0) 0) (fresh_seen body Nothing)
    (cond (eqb (word_at body 0) 1) (turn_seen body)
    (cond (eqb (word_at body 0) 2) (fresh_seen body Limit)
    (cond (eqb (word_at body 0) 3) (fresh_seen body LimitAndFirst) Damaged)))
