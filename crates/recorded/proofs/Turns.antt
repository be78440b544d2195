-- Laws of a recorded turn made again.
-- Assumes nothing.
use Prim.Native.Nat.{ℕ, ◌≤◌, ◌<◌}
use mathlib.Core.Path.{◌≡◌}
use mathlib.Core.Bool.{Bool, true}
use mathlib.Core.List.{List}
use lib.Dec.{leb}
use lib.ListN.{replicate}
use borrow.Author.Tests.{leb-true}
use Rattle.device.specs.Turn.{call_of}
use Rattle.capi.specs.Report.{report_length}
use Rattle.capi.specs.Calls.{Leaves, turn_call}
use Rattle.recorded.specs.declared.call.Seen.TheVariants.{Turn}
use Rattle.recorded.specs.Piece.{length_of}
use Rattle.recorded.specs.Turn.{most_of, has_room, call_in, turn_made, turn_recorded, made_seen, called_of, Laid}
use Rattle.words.proofs.EachBelow.{each_below}

-- what the test for room says
pub has_room_lem : (body : List ℕ) → has_room body ≡ true → (k : ℕ) → k < 8 → length_of body k ≤ most_of k
unfolding has_room
has_room_lem body fits k h = leb-true _ _ (each_below (λ k. leb (length_of body k) (most_of k)) 8 fits k h)

-- what is seen of a call on the recorded pieces is that of the recorded call
pub made : {body i m r0 r1 r2 r3 k p i' m' p' t' : List ℕ} {status : ℕ} → Laid body i m r0 r1 r2 r3 k p
    → Leaves i' m' p' t' status (turn_call i (replicate report_length 255) (call_of m r0 r1 r2 r3 k p))
    → (r : Bool) → r ≡ turn_recorded body (called_of i' m' p' t' status) → Turn status r ≡ made_seen body
unfolding made_seen turn_made call_in turn_recorded
made laid left r judged =
    rw (
      ← laid.image,
      ← laid.memory,
      ← laid.ring0,
      ← laid.ring1,
      ← laid.ring2,
      ← laid.ring3,
      ← laid.pack,
      ← laid.pipe,
      judged,
      left.image,
      left.memory,
      left.pipe,
      left.report,
      left.answer,
    )
