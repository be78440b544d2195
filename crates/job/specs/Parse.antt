-- The input taken apart.
use Rattle.std.specs.Prelude.{Bool, true, false, ℕ, List, length, leb, Result, Ok, Err}
use Rattle.job.specs.declared.fault.Fault.{Fault}
use Rattle.job.specs.declared.fault.Fault.TheVariants.{TooManyBytes, Windows, Ring0, Ring1, Ring2, Ring3, Kernels, Code, Memory, BytesLeftOver}
use Rattle.job.specs.Section.{is_whole}
use Rattle.job.specs.declared.parts.Job.{Job}
use Rattle.job.specs.Sections.{sections_of}
use Rattle.job.specs.Checks.{windows_sound, kernels_sound, code_sound, memory_sound}
use Rattle.job.specs.Parts.{job_of}

-- refused for the fault unless the test holds
unfoldable pub unless : {A : Type 0} → Fault → Bool → Result A Fault → Result A Fault
unless fault true rest = rest
unless fault false rest = Err fault

-- more than 61,440 bytes; else the first section too short or faulty, or bytes left over; else the job
unfoldable pub parts_of : List ℕ → Result Job Fault
parts_of input =
    let s = sections_of input in
    unless TooManyBytes (leb (length input) 61440)
    (unless Windows (windows_sound input s.windows)
    (unless Ring0 (is_whole input s.ring0)
    (unless Ring1 (is_whole input s.ring1)
    (unless Ring2 (is_whole input s.ring2)
    (unless Ring3 (is_whole input s.ring3)
    (unless Kernels (kernels_sound input s.kernels)
    (unless Code (code_sound input s.code s.kernels)
    (unless Memory (memory_sound input s.memory)
    (unless BytesLeftOver (leb (length input) s.memory.end)
    (Ok (job_of input s)))))))))))
