-- The whole job of docs/DEVICE.md: its length, and its parts.
-- Assumes nothing.
use mathlib.Core.Path.{◌≡◌, refl}
use lib.ListN.{length}
use Rattle.memory.specs.Place.{word_at}
use Rattle.state.specs.declared.device.Window.{Window}
use Rattle.std.specs.Prelude.{Ok}
use Rattle.job.specs.Section.{section_at}
use Rattle.job.specs.Sections.{sections_of, windows_of, ring0_of, ring1_of, ring2_of, ring3_of, kernels_of, code_of, memory_of}
use Rattle.words.specs.Choice.{all_below}
use Rattle.job.specs.Checks.{windows_sound, kernels_sound, code_sound, memory_sound}
use Rattle.job.specs.Parts.{window_at, job_of}
use Rattle.job.specs.Parse.{unless, parts_of}
use Rattle.job.specs.WholeCase.{whole_case}

pub its_length : length whole_case ≡ 116
unfolding whole_case
its_length = refl

-- each of its windows
abbrev same : Window
same = record { start = 0; length = 16 }

pub its_parts :
    parts_of whole_case
    ≡ Ok
    (record {
      window0 = same;
      window1 = same;
      window2 = same;
      window3 = same;
      ring0 = record { start = 40; end = 56 };
      ring1 = record { start = 60; end = 80 };
      ring2 = record { start = 84; end = 84 };
      ring3 = record { start = 88; end = 88 };
      pack = record { start = 88; end = 96 };
      memory = record { start = 100; end = 116 };
    })
unfolding whole_case parts_of unless windows_sound kernels_sound code_sound memory_sound all_below sections_of windows_of ring0_of ring1_of ring2_of ring3_of kernels_of code_of memory_of section_at job_of window_at word_at
its_parts = refl
