-- What a section must be so as not to be refused: not too short, and not faulty.
use Rattle.std.specs.Prelude.{ℕ, Bool, ◌&&◌, List, leb, eqb}
use Rattle.job.specs.declared.section.Section.{Section}
use Rattle.job.specs.Section.{is_whole}
use Rattle.words.specs.Choice.{all_below}
use Rattle.job.specs.Kernels.{has_word, lies_in_code}

-- 1: four windows
unfoldable pub windows_sound : List ℕ → Section → Bool
windows_sound input windows = is_whole input windows && eqb windows.count 4

-- 6: at most 16 kernels, each with a word
unfoldable pub kernels_sound : List ℕ → Section → Bool
kernels_sound input kernels =
    is_whole input kernels && leb kernels.count 16 && all_below (has_word input kernels.start) kernels.count

-- 7: at most 16,384 words of code, and each kernel lies in them
unfoldable pub code_sound : List ℕ → Section → Section → Bool
code_sound input code kernels =
    is_whole input code && leb code.count 16384
    && all_below (lies_in_code input kernels.start code.count) kernels.count

-- 8: at most 4,096 memory words
unfoldable pub memory_sound : List ℕ → Section → Bool
memory_sound input memory = is_whole input memory && leb memory.count 4096
