-- The sections of the input, in their fixed order: each starts where the one before it ends.
use Rattle.std.specs.Prelude.{ℕ, List}
use Rattle.job.specs.declared.section.Section.{Section}
use Rattle.job.specs.declared.sections.Sections.{Sections}
use Rattle.job.specs.Section.{section_at}

-- 1: windows, pairs of words
unfoldable pub windows_of : List ℕ → Section
windows_of input = section_at 8 input 0

-- 2 to 5: ring bytes
unfoldable pub ring0_of : List ℕ → Section
ring0_of input = section_at 1 input (windows_of input).end

unfoldable pub ring1_of : List ℕ → Section
ring1_of input = section_at 1 input (ring0_of input).end

unfoldable pub ring2_of : List ℕ → Section
ring2_of input = section_at 1 input (ring1_of input).end

unfoldable pub ring3_of : List ℕ → Section
ring3_of input = section_at 1 input (ring2_of input).end

-- 6: kernels, pairs of words
unfoldable pub kernels_of : List ℕ → Section
kernels_of input = section_at 8 input (ring3_of input).end

-- 7: code, words
unfoldable pub code_of : List ℕ → Section
code_of input = section_at 4 input (kernels_of input).end

-- 8: memory words
unfoldable pub memory_of : List ℕ → Section
memory_of input = section_at 4 input (code_of input).end

-- all of them
unfoldable pub sections_of : List ℕ → Sections
sections_of input =
    record {
      windows = windows_of input;
      ring0 = ring0_of input;
      ring1 = ring1_of input;
      ring2 = ring2_of input;
      ring3 = ring3_of input;
      kernels = kernels_of input;
      code = code_of input;
      memory = memory_of input;
    }
