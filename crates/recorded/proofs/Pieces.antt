-- Laws of a piece's bytes. Bytes are those of a piece exactly if they are the piece's bytes.
-- Assumes nothing.
use mathlib.Core.Path.{◌≡◌, refl, sym, ◌∙◌}
use mathlib.Core.Bool.{Bool, true}
use mathlib.Core.List.{List, [], ◌∷◌, ◌++◌}
use mathlib.Core.Logic.{⊎_elim}
use Prim.Native.Nat.{ℕ, zero, suc, ◌+◌, ◌-◌, ◌<◌}
use native.Mathlib.Nat.{not-suc-le-zero, eq-or-lt_of_le, le_of_suc-le-suc}
use native.Mathlib.Numerals.{add-one}
use native.Mathlib.Omega.{arith}
use lib.Dec.{eqb}
use lib.ListN.{length, get_or, set, take, drop, length-append, get_or-append}
use lib.Seq.{drop-cons, append_snoc, set_at, take_at, ext_get_or, get_or_at}
use borrow.Author.Tests.{eqb-true, eq-eqb}
use Rattle.words.proofs.Choices.{both_left, both_right}
use Rattle.words.specs.Choice.{all_below}
use Rattle.recorded.specs.Piece.{length_of, entry_end, entry_of, place_of, first_bytes, same_as, PieceIsBytes}
use Rattle.words.proofs.EachBelow.{each_below}

-- past one more entry
pub one_further : (body ys : List ℕ) (y at next : ℕ) → at ≡ place_of body (length ys) → next ≡ entry_end body at → next ≡ place_of body (length (ys ++ (y ∷ [])))
unfolding place_of
one_further body ys y at next here more = rw (length-append, add-one, more, here)

pub first_length : (n : ℕ) (entry : List ℕ) → length (first_bytes n entry) ≡ n
unfolding first_bytes
first_length zero entry = refl
first_length (suc n) entry = rw (length-append, first_length n entry) (add-one n)

-- one more byte is laid
pub first_more : (n : ℕ) (entry m : List ℕ) → n < length m
    → set (first_bytes n entry ++ drop n m) n (get_or entry (8 + n) 0) ≡ first_bytes (n + 1) entry ++ drop (n + 1) m
unfolding first_bytes
first_more n entry m inside =
    rw (add-one, drop-cons m n 0, set_at _ _ _ _ n (first_length n entry)) (sym (append_snoc (first_bytes n entry) (get_or entry (8 + n) 0) (drop (suc n) m)))

-- all of a piece is laid
pub first_taken : (n i : ℕ) (entry m : List ℕ) → i ≡ n → take (n - 0) (first_bytes i entry ++ m) ≡ first_bytes n entry
first_taken n i entry m all = rw all (take_at (first_bytes n entry) m (n - 0) (first_length n entry ∙ omega arith))

-- each of the first n bytes is the one stored there
first_at : (n : ℕ) (entry : List ℕ) (i : ℕ) → i < n → get_or (first_bytes n entry) i 0 ≡ get_or entry (8 + i) 0
unfolding first_bytes
first_at zero entry i h = absurd (not-suc-le-zero h)
first_at (suc n) entry i h =
    ⊎_elim
    (λ last. rw last (get_or_at (first_bytes n entry) (get_or entry (8 + n) 0) [] 0 n (first_length n entry)))
    (λ less. get_or-append (first_bytes n entry) (get_or entry (8 + n) 0 ∷ []) 0 i (omega (arith, first_length n entry)) ∙ first_at n entry i less)
    (eq-or-lt_of_le (le_of_suc-le-suc h))

-- a test that holds of each number below n
have_all : (test : ℕ → Bool) (n : ℕ) → ((i : ℕ) → i < n → test i ≡ true) → all_below test n ≡ true
unfolding all_below
have_all test zero each = refl
have_all test (suc n) each = rw (have_all test n (λ i h. each i (omega arith)), each n (omega arith))

module _ (bytes : List ℕ) (n : ℕ) (entry : List ℕ) where
  same_bytes : same_as bytes n entry ≡ true → bytes ≡ first_bytes n entry
  unfolding same_as
  same_bytes same =
      let test : ℕ → Bool = λ i. eqb (get_or bytes i 0) (get_or entry (8 + i) 0) in
      let long : length bytes ≡ n = eqb-true _ _ (both_left (eqb (length bytes) n) (all_below test (length bytes)) same) in
      let all = both_right (eqb (length bytes) n) (all_below test (length bytes)) same in
      ext_get_or 0 bytes (first_bytes n entry) (long ∙ sym (first_length n entry))
      (λ i h. eqb-true _ _ (each_below test (length bytes) all i h) ∙ sym (first_at n entry i (omega arith)))

  bytes_same : bytes ≡ first_bytes n entry → same_as bytes n entry ≡ true
  unfolding same_as
  bytes_same e =
      let long : length bytes ≡ n = rw e (first_length n entry) in
      rw (eq-eqb (length bytes) n long)
      (have_all (λ i. eqb (get_or bytes i 0) (get_or entry (8 + i) 0)) (length bytes)
      (λ i h. eq-eqb (get_or bytes i 0) (get_or entry (8 + i) 0) (rw e (first_at n entry i (omega arith)))))

pub piece_is_bytes : PieceIsBytes
piece_is_bytes bytes body k = (same_bytes bytes (length_of body k) (entry_of body k), bytes_same bytes (length_of body k) (entry_of body k))
