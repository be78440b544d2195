-- A recorded turn, made again. Its twelve pieces: the image, the memory, four rings, the pack and the pipe before; the
-- image, the memory, the pipe and the report after.
use Rattle.std.specs.Prelude.{ℕ, ◌≡◌, Bool, cond, ◌&&◌, List, [], ◌∷◌, eqb, leb, get_or, replicate}
use Rattle.memory.specs.Place.{word_at}
use Rattle.words.specs.Choice.{all_below}
use Rattle.device.specs.Turn.{Call, call_of}
use Rattle.capi.specs.Image.{image_length}
use Rattle.capi.specs.Report.{report_length}
use Rattle.capi.specs.Calls.{Called, turn_call}
use Rattle.recorded.specs.declared.call.Seen.{Seen}
use Rattle.recorded.specs.declared.call.Seen.TheVariants.{Turn, Damaged}
use Rattle.recorded.specs.Piece.{length_of, piece_bytes, is_piece, has_pieces}

-- the most bytes of a memory
abbrev pub memory_room : ℕ
memory_room = 1048640

-- of a ring or a pack
abbrev pub ring_room : ℕ
ring_room = 65792

-- of a pipe
abbrev pub pipe_room : ℕ
pipe_room = 2048

-- of piece k, one that the call is made on
abbrev pub most_of : ℕ → ℕ
most_of k = get_or (image_length ∷ memory_room ∷ ring_room ∷ ring_room ∷ ring_room ∷ ring_room ∷ ring_room ∷ pipe_room ∷ []) k 0

-- there is room for each of them
unfoldable pub has_room : List ℕ → Bool
has_room body = all_below (λ k. leb (length_of body k) (most_of k)) 8

-- the recorded call
unfoldable pub call_in : List ℕ → Call
call_in body =
    call_of (piece_bytes body 1) (piece_bytes body 2) (piece_bytes body 3) (piece_bytes body 4) (piece_bytes body 5) (piece_bytes body 6)
    (piece_bytes body 7)

-- what it leaves and answers; each byte of the report was 255
unfoldable pub turn_made : List ℕ → Called
turn_made body = turn_call (piece_bytes body 0) (replicate report_length 255) (call_in body)

-- image, memory, pipe and report are those recorded, the word returned is the report's first, and no byte follows the last piece
unfoldable pub turn_recorded : List ℕ → Called → Bool
turn_recorded body made =
    ((is_piece made.image body 8 && is_piece made.memory body 9) && (is_piece made.pipe body 10 && is_piece made.report body 11))
    && (eqb made.answer (word_at made.report 0) && has_pieces body 12)

-- what is seen of the call
unfoldable pub made_seen : List ℕ → Seen
made_seen body = Turn (turn_made body).answer (turn_recorded body (turn_made body))

-- what is seen of the record: with no room it is damaged
unfoldable pub turn_seen : List ℕ → Seen
turn_seen body = cond (has_room body) (made_seen body) Damaged

-- what a call left and answered
abbrev pub called_of : List ℕ → List ℕ → List ℕ → List ℕ → ℕ → Called
called_of image memory pipe report answer =
    record { image = image; memory = memory; pipe = pipe; report = report; answer = answer }

-- what is lent is the recorded pieces
pub record Laid (body i m r0 r1 r2 r3 k p : List ℕ) : Type 0 where
  pub image : i ≡ piece_bytes body 0
  pub memory : m ≡ piece_bytes body 1
  pub ring0 : r0 ≡ piece_bytes body 2
  pub ring1 : r1 ≡ piece_bytes body 3
  pub ring2 : r2 ≡ piece_bytes body 4
  pub ring3 : r3 ≡ piece_bytes body 5
  pub pack : k ≡ piece_bytes body 6
  pub pipe : p ≡ piece_bytes body 7
