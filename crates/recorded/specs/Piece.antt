-- The pieces of a record's body, and what it is for bytes to be those of one.
use Rattle.std.specs.Prelude.{ℕ, zero, suc, ◌+◌, ◌*◌, ◌^◌, ◌≡◌, Bool, true, cond, ◌&&◌, ◌↔◌, List, [], ◌∷◌, ◌++◌, eqb, leb, length, get_or}
use Rattle.memory.specs.Place.{word_at}
use Rattle.words.specs.Choice.{all_below}
use Rattle.job.specs.Parts.{bytes_of}

-- where the entry at a place ends: it is the piece's length, how many of its bytes are stored, and these; from the
-- body's end on there is none
unfoldable pub entry_end : List ℕ → ℕ → ℕ
entry_end body at = cond (leb (length body) at) at (at + 8 + word_at body (at + 4))

-- where the entry of piece k starts: the first after the word of the kind, any other where the one before it ends
unfoldable pub place_of : List ℕ → ℕ → ℕ
place_of body zero = 4
place_of body (suc k) = entry_end body (place_of body k)

-- the body is n pieces, and no byte follows
abbrev pub has_pieces : List ℕ → ℕ → Bool
has_pieces body n = eqb (place_of body n) (length body)

-- the entry of piece k
unfoldable pub entry_of : List ℕ → ℕ → List ℕ
entry_of body k = bytes_of body (record { start = place_of body k; end = entry_end body (place_of body k) })

-- its length
unfoldable pub length_of : List ℕ → ℕ → ℕ
length_of body k = word_at (entry_of body k) 0

-- the word that it is, of four bytes
unfoldable pub word_of : List ℕ → ℕ → ℕ
word_of body k = word_at (entry_of body k) 8

-- the number that it is, of at most eight bytes
unfoldable pub number_of : List ℕ → ℕ → ℕ
number_of body k = 2 ^ 32 * word_at (entry_of body k) 12 + word_of body k

-- the first n bytes of an entry's piece; one that is not stored is 0
unfoldable pub first_bytes : ℕ → List ℕ → List ℕ
first_bytes zero entry = []
first_bytes (suc n) entry = first_bytes n entry ++ (get_or entry (8 + n) 0 ∷ [])

-- the bytes of piece k
abbrev pub piece_bytes : List ℕ → ℕ → List ℕ
piece_bytes body k = first_bytes (length_of body k) (entry_of body k)

-- n bytes, each the stored one at its place, or 0 where none is stored
unfoldable pub same_as : List ℕ → ℕ → List ℕ → Bool
same_as bytes n entry = eqb (length bytes) n && all_below (λ i. eqb (get_or bytes i 0) (get_or entry (8 + i) 0)) (length bytes)

-- the bytes are those of piece k
abbrev pub is_piece : List ℕ → List ℕ → ℕ → Bool
is_piece bytes body k = same_as bytes (length_of body k) (entry_of body k)

-- so they are exactly if they are the piece's bytes
abbrev pub PieceIsBytes : Type 0
PieceIsBytes = (bytes body : List ℕ) (k : ℕ) → (is_piece bytes body k ≡ true) ↔ (bytes ≡ piece_bytes body k)
