-- Loads and stores of a byte, a half or a word, at any address and alignment.
use Rattle.std.specs.Prelude.{List, ℕ, length, get_or, Result, Ok, Err}
use Rattle.words.specs.Signed.{extended}
use Rattle.memory.specs.declared.access.Width.{Width}
use Rattle.memory.specs.declared.access.Width.TheVariants.{Byte, Half, Word}
use Rattle.memory.specs.declared.address.Outside.{Outside}
use Rattle.memory.specs.Address.{reach_of, if_inside}
use Rattle.memory.specs.Place.{half_at, word_at, with_byte, with_half, with_word}

-- how many bytes a width has
abbrev pub bytes_of : Width → ℕ
bytes_of Byte = 1
bytes_of Half = 2
bytes_of Word = 4

-- what the bytes from a on stand for: LB and LH extend the sign
unfoldable pub value_at : List ℕ → Width → ℕ → ℕ
value_at m Byte a = extended 8 (get_or m a 0)
value_at m Half a = extended 16 (half_at m a)
value_at m Word a = word_at m a

-- the window with the low byte or half of v, or all of it, from a on
unfoldable pub with_value : List ℕ → Width → ℕ → ℕ → List ℕ
with_value m Byte a v = with_byte m a v
with_value m Half a v = with_half m a v
with_value m Word a v = with_word m a v

-- a load's answer
unfoldable pub load_of : List ℕ → Width → ℕ → Result ℕ Outside
load_of m width a = if_inside (reach_of (length m) a (bytes_of width)) (Ok (value_at m width a)) Err

-- the window after a store; it is as it was where the bytes do not lie inside
unfoldable pub store_of : List ℕ → Width → ℕ → ℕ → List ℕ
store_of m width a v = if_inside (reach_of (length m) a (bytes_of width)) (with_value m width a v) (λ o. m)
