-- Numbers of one, two and four bytes at a place of a window: little endian, at any alignment.
use Rattle.std.specs.Prelude.{List, ℕ, ◌+◌, get_or, set}
use Rattle.words.specs.Bytes.{half_of, word_of, byte_of}

-- the half of the two bytes from a on; a byte past the end reads 0
unfoldable pub half_at : List ℕ → ℕ → ℕ
half_at m a = half_of (get_or m a 0) (get_or m (a + 1) 0)

-- the word of the four bytes from a on; a byte past the end reads 0
unfoldable pub word_at : List ℕ → ℕ → ℕ
word_at m a = word_of (get_or m a 0) (get_or m (a + 1) 0) (get_or m (a + 2) 0) (get_or m (a + 3) 0)

-- the window with v's low byte at a; past the end nothing is put
unfoldable pub with_byte : List ℕ → ℕ → ℕ → List ℕ
with_byte m a v = set m a (byte_of 0 v)

-- the window with v's low half from a on; past the end nothing is put
unfoldable pub with_half : List ℕ → ℕ → ℕ → List ℕ
with_half m a v = set (set m a (byte_of 0 v)) (a + 1) (byte_of 1 v)

-- the window with the word v from a on; past the end nothing is put
unfoldable pub with_word : List ℕ → ℕ → ℕ → List ℕ
with_word m a v = set (set (set (set m a (byte_of 0 v)) (a + 1) (byte_of 1 v)) (a + 2) (byte_of 2 v)) (a + 3) (byte_of 3 v)
