-- The pairs of section 6: each kernel's first word and words.
use Rattle.std.specs.Prelude.{ℕ, ◌+◌, Bool, List, leb}
use Rattle.pack.specs.Kernels.{first_word, kernel_words}

-- kernel k of the pairs from `start` on has a word
unfoldable pub has_word : List ℕ → ℕ → ℕ → Bool
has_word input start k = leb 1 (kernel_words input start k)

-- it is not outside the code, whose count is `code`
unfoldable pub lies_in_code : List ℕ → ℕ → ℕ → ℕ → Bool
lies_in_code input start code k = leb (first_word input start k + kernel_words input start k) code
