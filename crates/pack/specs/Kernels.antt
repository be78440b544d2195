-- The kernel pack. A byte past its end reads 0; such a pack is faulty by its length.
use Rattle.std.specs.Prelude.{ℕ, ◌+◌, ◌*◌, Bool, ◌&&◌, List, length, leb, eqb}
use Rattle.words.specs.Choice.{all_below}
use Rattle.memory.specs.Place.{word_at}
use Rattle.pack.specs.declared.kernels.Kernel.{Kernel}

-- count K
unfoldable pub kernel_count : List ℕ → ℕ
kernel_count pack = word_at pack 0

-- where a pack's K pairs start
abbrev pub pairs_start : ℕ
pairs_start = 4

-- the first word of kernel k, by the pairs (first word, words) from `start` on
unfoldable pub first_word : List ℕ → ℕ → ℕ → ℕ
first_word bytes start k = word_at bytes (start + 8 * k)

-- its words
unfoldable pub kernel_words : List ℕ → ℕ → ℕ → ℕ
kernel_words bytes start k = word_at bytes (start + 8 * k + 4)

-- count N
unfoldable pub code_count : List ℕ → ℕ
code_count pack = word_at pack (pairs_start + 8 * kernel_count pack)

-- kernel k has at least one word and lies in the code
unfoldable pub lies_in_code : List ℕ → ℕ → Bool
lies_in_code pack k =
    leb 1 (kernel_words pack pairs_start k)
    && leb (first_word pack pairs_start k + kernel_words pack pairs_start k) (code_count pack)

-- each of the first n kernels does
abbrev pub all_lie : List ℕ → ℕ → Bool
all_lie pack n = all_below (lies_in_code pack) n

-- K is 0 to 16, N is 0 to 16,384, nothing stands after the N code words, and each kernel lies in them
unfoldable pub sound_pack : List ℕ → Bool
sound_pack pack =
    leb (kernel_count pack) 16 && leb (code_count pack) 16384
    && eqb (length pack) (8 + 8 * kernel_count pack + 4 * code_count pack)
    && all_lie pack (kernel_count pack)

-- the bytes of kernel k
unfoldable pub kernel_of : List ℕ → ℕ → Kernel
kernel_of pack k =
    record { start = 8 + 8 * kernel_count pack + 4 * first_word pack pairs_start k; length = 4 * kernel_words pack pairs_start k }

-- the code word at a place of a kernel, in bytes from the kernel's start
abbrev pub code_word : List ℕ → Kernel → ℕ → ℕ
code_word pack kernel place = word_at pack (kernel.start + place)
