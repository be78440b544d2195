-- A recorded making of a fresh device, made again. Its five pieces: the windows, the memory's length, the image before
-- and after, the answer; a limit that is named is the sixth, and edition 2's starting number the seventh.
use Rattle.std.specs.Prelude.{ℕ, ◌≡◌, Bool, true, cond, ◌&&◌, List, eqb}
use Rattle.state.specs.declared.edition.Start.TheVariants.{Edition1, Edition2}
use Rattle.capi.specs.Image.{image_length}
use Rattle.capi.specs.Calls.{windows_length, Freshened, fresh_with_call, fresh_call}
use Rattle.recorded.specs.declared.call.Seen.{Seen}
use Rattle.recorded.specs.declared.call.Seen.TheVariants.{Fresh, Damaged}
use Rattle.recorded.specs.declared.fresh.Named.{Named}
use Rattle.recorded.specs.declared.fresh.Named.TheVariants.{Nothing, Limit, LimitAndFirst}
use Rattle.recorded.specs.Piece.{length_of, piece_bytes, word_of, number_of, is_piece, has_pieces}

-- how many pieces it has
abbrev pub pieces_of : Named → ℕ
pieces_of Nothing = 5
pieces_of Limit = 6
pieces_of LimitAndFirst = 7

-- what is named is of 4 bytes
unfoldable pub are_words : List ℕ → Named → Bool
are_words body Nothing = true
are_words body Limit = eqb (length_of body 5) 4
are_words body LimitAndFirst = eqb (length_of body 5) 4 && eqb (length_of body 6) 4

-- its pieces are as long as those of a call: the memory's length is a number of 8 bytes, the answer and what is named of 4
unfoldable pub are_whole : List ℕ → Named → Bool
are_whole body named =
    ((eqb (length_of body 0) windows_length && eqb (length_of body 2) image_length) && (eqb (length_of body 1) 8 && eqb (length_of body 4) 4))
    && are_words body named

-- what the call on the recorded pieces leaves and answers
unfoldable pub fresh_made : List ℕ → Named → Freshened
fresh_made body Nothing = fresh_call (piece_bytes body 2) (piece_bytes body 0) (number_of body 1)
fresh_made body Limit = fresh_with_call (piece_bytes body 2) (piece_bytes body 0) (number_of body 1) (word_of body 5) Edition1
fresh_made body LimitAndFirst = fresh_with_call (piece_bytes body 2) (piece_bytes body 0) (number_of body 1) (word_of body 5) (Edition2 (word_of body 6))

-- image and answer are those recorded, and no byte follows the last piece
unfoldable pub fresh_recorded : List ℕ → Named → Freshened → Bool
fresh_recorded body named made =
    is_piece made.image body 3 && (eqb made.answer (number_of body 4) && has_pieces body (pieces_of named))

-- what is seen of it
unfoldable pub fresh_seen : List ℕ → Named → Seen
fresh_seen body named = cond (are_whole body named) (Fresh (fresh_recorded body named (fresh_made body named))) Damaged

-- the image and the windows that are lent are the recorded pieces
pub record Laid (body i w : List ℕ) : Type 0 where
  pub image : i ≡ piece_bytes body 2
  pub windows : w ≡ piece_bytes body 0
