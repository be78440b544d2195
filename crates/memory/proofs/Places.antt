-- Laws of numbers at a place.
-- Assumes nothing.
use mathlib.Core.Path.{◌≡◌, ◌∙◌}
use mathlib.Core.List.{List}
use Prim.Native.Nat.{ℕ, ◌+◌, ◌≤◌, ◌<◌, ◌^◌}
use native.Mathlib.Omega.{arith}
use lib.ListN.{length, get_or, set, length-set}
use lib.Seq.{get_or-set_same, get_or-set_other}
use Rattle.words.specs.Bytes.{byte_of}
use Rattle.words.proofs.ByteLaws.{word_of_its_bytes}
use Rattle.memory.specs.Place.{half_at, word_at, with_word}

-- every number of a list is a byte
abbrev pub Bytes : List ℕ → Type 0
Bytes m = (i : ℕ) → get_or m i 0 < 2 ^ 8

pub half_fits : (m : List ℕ) (a : ℕ) → Bytes m → half_at m a < 2 ^ 16
unfolding half_at
half_fits m a bytes = omega (arith, bytes a, bytes (a + 1))

pub word_fits : (m : List ℕ) (a : ℕ) → Bytes m → word_at m a < 2 ^ 32
unfolding word_at
word_fits m a bytes = omega (arith, bytes a, bytes (a + 1), bytes (a + 2), bytes (a + 3))

-- a word put and read back
pub word_read_back : (m : List ℕ) (a v : ℕ) → v < 2 ^ 32 → a + 4 ≤ length m → word_at (with_word m a v) a ≡ v
unfolding word_at with_word
word_read_back m a v small inside =
    let m1 = set m a (byte_of 0 v) in
    let m2 = set m1 (a + 1) (byte_of 1 v) in
    let m3 = set m2 (a + 2) (byte_of 2 v) in
    let b0 : get_or (with_word m a v) a 0 ≡ byte_of 0 v =
    get_or-set_other m3 (a + 3) a (byte_of 3 v) 0 (λ e. omega arith)
    ∙ get_or-set_other m2 (a + 2) a (byte_of 2 v) 0 (λ e. omega arith)
    ∙ get_or-set_other m1 (a + 1) a (byte_of 1 v) 0 (λ e. omega arith)
    ∙ get_or-set_same m a (byte_of 0 v) 0 (omega arith) in
    let b1 : get_or (with_word m a v) (a + 1) 0 ≡ byte_of 1 v =
    get_or-set_other m3 (a + 3) (a + 1) (byte_of 3 v) 0 (λ e. omega arith)
    ∙ get_or-set_other m2 (a + 2) (a + 1) (byte_of 2 v) 0 (λ e. omega arith)
    ∙ get_or-set_same m1 (a + 1) (byte_of 1 v) 0 (simp length-set (omega arith)) in
    let b2 : get_or (with_word m a v) (a + 2) 0 ≡ byte_of 2 v =
    get_or-set_other m3 (a + 3) (a + 2) (byte_of 3 v) 0 (λ e. omega arith)
    ∙ get_or-set_same m2 (a + 2) (byte_of 2 v) 0 (simp length-set (omega arith)) in
    let b3 : get_or (with_word m a v) (a + 3) 0 ≡ byte_of 3 v =
    get_or-set_same m3 (a + 3) (byte_of 3 v) 0 (simp length-set (omega arith)) in
    rw (b0, b1, b2, b3) (word_of_its_bytes v small)
