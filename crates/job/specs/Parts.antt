-- What a job is made of.
use Rattle.std.specs.Prelude.{ℕ, ◌+◌, ◌-◌, ◌*◌, List}
use Rattle.memory.specs.Place.{word_at}
use Rattle.memory.specs.Window.{window_of}
use Rattle.job.specs.declared.section.Section.{Section}
use Rattle.job.specs.declared.sections.Sections.{Sections}
use Rattle.state.specs.declared.device.Window.{Window}
use Rattle.job.specs.declared.parts.Part.{Part}
use Rattle.job.specs.declared.parts.Job.{Job}

-- pair k of the first section: start, length
unfoldable pub window_at : List ℕ → ℕ → Window
window_at input k = record { start = word_at input (4 + 8 * k); length = word_at input (8 + 8 * k) }

-- a section without its count
abbrev pub content_of : Section → Part
content_of section = record { start = section.start; end = section.end }

-- the bytes of a part; past the end of the input there are none
unfoldable pub bytes_of : List ℕ → Part → List ℕ
bytes_of input part = window_of part.start (part.end - part.start) input

-- the kernel pack is sections 6 and 7, with their counts
unfoldable pub job_of : List ℕ → Sections → Job
job_of input sections =
    record {
      window0 = window_at input 0;
      window1 = window_at input 1;
      window2 = window_at input 2;
      window3 = window_at input 3;
      ring0 = content_of sections.ring0;
      ring1 = content_of sections.ring1;
      ring2 = content_of sections.ring2;
      ring3 = content_of sections.ring3;
      pack = record { start = sections.ring3.end; end = sections.code.end };
      memory = content_of sections.memory;
    }
