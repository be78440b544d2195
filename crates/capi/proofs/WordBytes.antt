-- Laws of words and their bytes.
-- Assumes nothing.
use mathlib.Core.Path.{◌≡◌, refl, sym, ◌∙◌}
use mathlib.Core.List.{List, [], ◌∷◌, ◌++◌, append_assoc, append-nil}
use Prim.Native.Nat.{ℕ, zero, suc, ◌+◌, ◌*◌, ◌<◌, ◌≤◌, ◌^◌}
use native.Mathlib.Nat.{add-zero, zero-add, add-suc, add_assoc}
use native.Mathlib.Numerals.{add-one}
use native.Mathlib.Omega.{arith}
use lib.ListN.{length, get_or, take, drop, length-drop}
use lib.Seq.{sets, take_all, length-take-le, take-suc, take-add, drop-cons, get_or-drop}
use Rattle.words.proofs.ByteLaws.{word_of_its_bytes, byte_0_of_word, byte_1_of_word, byte_2_of_word, byte_3_of_word}
use Rattle.memory.specs.Place.{word_at, with_word}
use Rattle.capi.specs.Image.{bytes_of, word_in, words_in}
use Rattle.capi.proofs.Stores.{sets_append, sets_whole}

pub bytes-length : (ws : List ℕ) → length (bytes_of ws) ≡ 4 * length ws
unfolding bytes_of
bytes-length [] = refl
bytes-length (w ∷ ws) = omega (arith, bytes-length ws)

pub bytes-append : (xs ys : List ℕ) → bytes_of (xs ++ ys) ≡ bytes_of xs ++ bytes_of ys
unfolding bytes_of
bytes-append [] ys = refl
bytes-append (x ∷ xs) ys = rw (bytes-append xs ys)

-- a word put is its four bytes stored
pub put_is_sets : (m : List ℕ) (a v : ℕ) → with_word m a v ≡ sets m a (bytes_of (v ∷ []))
unfolding with_word bytes_of
put_is_sets m a v =
    let one : a + 1 ≡ suc a = omega arith in
    let two : a + 2 ≡ suc (suc a) = omega arith in
    let three : a + 3 ≡ suc (suc (suc a)) = omega arith in
    rw (one, two, three)

-- a row of words put where another ends: they are one row
pub words_then : (m : List ℕ) (k : ℕ) (xs : List ℕ) (j : ℕ) (ys : List ℕ) {m1 m2 : List ℕ} → j ≡ k + length xs
    → m1 ≡ sets m (4 * k) (bytes_of xs) → m2 ≡ sets m1 (4 * j) (bytes_of ys) → m2 ≡ sets m (4 * k) (bytes_of (xs ++ ys))
words_then m k xs j ys {m1} {m2} next first second =
    let at : 4 * j ≡ 4 * k + length (bytes_of xs) = omega (arith, bytes-length xs) in
    second ∙ rw (first, at, bytes-append xs ys) (sets_append m (4 * k) (bytes_of xs) (bytes_of ys))

-- one word more of a row
pub words_more : (m : List ℕ) (k i : ℕ) (ws : List ℕ) → i < length ws
    → with_word (sets m (4 * k) (bytes_of (take i ws))) (4 * k + 4 * i) (get_or ws i 0) ≡ sets m (4 * k) (bytes_of (take (i + 1) ws))
words_more m k i ws h =
    let at : 4 * k + 4 * i ≡ 4 * (k + i) = omega arith in
    rw (add-one i, take-suc ws i 0 h)
    (words_then m k (take i ws) (k + i) (get_or ws i 0 ∷ []) (omega (arith, length-take-le i ws (omega arith))) refl (rw at (put_is_sets _ _ _)))

-- a row over all bytes is all that is there
pub words-whole : (m : List ℕ) (ws : List ℕ) {m1 : List ℕ} → length m ≡ 4 * length ws → m1 ≡ sets m 0 (bytes_of ws) → m1 ≡ bytes_of ws
words-whole m ws size e = e ∙ sets_whole m (bytes_of ws) (bytes-length ws ∙ sym size)

-- word k + 1 of some bytes is word k of those after the first four
later : (m : List ℕ) (k : ℕ) → word_in m (suc k) ≡ word_in (drop 4 m) k
unfolding word_at
later m k =
    let a0 : 4 * suc k ≡ 4 + 4 * k = omega arith in
    let a1 : 4 + 4 * k + 1 ≡ 4 + (4 * k + 1) = omega arith in
    let a2 : 4 + 4 * k + 2 ≡ 4 + (4 * k + 2) = omega arith in
    let a3 : 4 + 4 * k + 3 ≡ 4 + (4 * k + 3) = omega arith in
    rw (a0, a1, a2, a3, get_or-drop 4 m (4 * k) 0, get_or-drop 4 m (4 * k + 1) 0, get_or-drop 4 m (4 * k + 2) 0, get_or-drop 4 m (4 * k + 3) 0)

-- each word that fits is read back
pub word_in-bytes : (ws : List ℕ) (k : ℕ) → k < length ws → get_or ws k 0 < 2 ^ 32 → word_in (bytes_of ws) k ≡ get_or ws k 0
unfolding bytes_of word_at
word_in-bytes [] k h fit = absurd (omega arith)
word_in-bytes (w ∷ ws) zero h fit = word_of_its_bytes w fit
word_in-bytes (w ∷ ws) (suc k) h fit = later (bytes_of (w ∷ ws)) k ∙ word_in-bytes ws k (omega arith) fit

-- and so is each row of them
pub words_in-bytes : (ws : List ℕ) → ((k : ℕ) → get_or ws k 0 < 2 ^ 32) → (k n : ℕ) → k + n ≤ length ws → words_in (bytes_of ws) k n ≡ take n (drop k ws)
unfolding words_in
words_in-bytes ws fit k zero h = refl
words_in-bytes ws fit k (suc n) h =
    let inside : n < length (drop k ws) = simp length-drop (omega arith) in
    rw (take-suc (drop k ws) n 0 inside, get_or-drop k ws n 0, words_in-bytes ws fit k n (omega arith), word_in-bytes ws (k + n) (omega arith) (fit (k + n)))

-- a row of which each word stands in the bytes is read out of them
pub words_in_each : (m : List ℕ) (k n : ℕ) (ws : List ℕ) → length ws ≡ n → ((i : ℕ) → i < n → get_or ws i 0 ≡ word_in m (k + i)) → ws ≡ words_in m k n
unfolding words_in
words_in_each m k n ws long each = sym (take_all n ws (omega arith)) ∙ go n (omega arith)
  where
    go : (i : ℕ) → i ≤ n → take i ws ≡ words_in m k i
    go zero h = refl
    go (suc i) h = rw (take-suc ws i 0 (omega arith), go i (omega arith), each i h) refl

-- two rows, one after the other, are one
pub words_in-append : (m : List ℕ) (k a b : ℕ) → words_in m k a ++ words_in m (k + a) b ≡ words_in m k (a + b)
unfolding words_in
words_in-append m k a zero = rw add-zero (append-nil (words_in m k a))
words_in-append m k a (suc b) = rw (add-suc a b, ← append_assoc, words_in-append m k a b, add_assoc k a b)

four_bytes : (m : List ℕ) (a : ℕ) → a + 4 ≤ length m → take 4 (drop a m) ≡ get_or m a 0 ∷ get_or m (a + 1) 0 ∷ get_or m (a + 2) 0 ∷ get_or m (a + 3) 0 ∷ []
four_bytes m a h =
    let one : a + 1 ≡ suc a = omega arith in
    let two : a + 2 ≡ suc (suc a) = omega arith in
    let three : a + 3 ≡ suc (suc (suc a)) = omega arith in
    rw (one, two, three, drop-cons m a 0 (omega arith), drop-cons m (suc a) 0 (omega arith), drop-cons m (suc (suc a)) 0 (omega arith), drop-cons m (suc (suc (suc a))) 0 (omega arith))

-- the bytes of the words of some bytes are these
pub bytes_of_words_in : (m : List ℕ) → ((i : ℕ) → get_or m i 0 < 2 ^ 8) → (n : ℕ) → 4 * n ≤ length m → bytes_of (words_in m 0 n) ≡ take (4 * n) m
unfolding bytes_of words_in word_at
bytes_of_words_in m bytes zero h = refl
bytes_of_words_in m bytes (suc n) h =
    let b0 = bytes (4 * n) in
    let b1 = bytes (4 * n + 1) in
    let b2 = bytes (4 * n + 2) in
    let b3 = bytes (4 * n + 3) in
    let next : 4 * suc n ≡ 4 * n + 4 = omega arith in
    rw (next, take-add (4 * n) 4 m, four_bytes m (4 * n) (omega arith), bytes-append, bytes_of_words_in m bytes n (omega arith), zero-add n, byte_0_of_word b0 b1 b2 b3, byte_1_of_word b0 b1 b2 b3, byte_2_of_word b0 b1 b2 b3, byte_3_of_word b0 b1 b2 b3)
