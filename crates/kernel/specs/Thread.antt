-- A thread: its registers, its place in the kernel's bytes and the steps it has taken.
use Rattle.std.specs.Prelude.{ℕ, ◌+◌}
use Rattle.words.specs.Arithmetic.{sum}
use Rattle.memory.specs.declared.quad.Quad.{Quad}
use Rattle.kernel.specs.Registers.{start_registers, with_scalar, with_vector}
use Rattle.kernel.specs.declared.thread.Thread.{Thread}

-- a thread's start: the first instruction, no step taken
unfoldable pub started : ℕ → ℕ → ℕ → ℕ → Thread
started group thread threads groups =
    record { registers = start_registers group thread threads groups; place = 0; steps = 0 }

-- the thread with x in scalar register n
unfoldable pub written : Thread → ℕ → ℕ → Thread
written t n x = record { registers = with_scalar t.registers n x; place = t.place; steps = t.steps }

-- the thread with four words in vector register n
unfoldable pub written_vector : Thread → ℕ → Quad → Thread
written_vector t n q = record { registers = with_vector t.registers n q; place = t.place; steps = t.steps }

-- one step taken, and the thread stands at a place
unfoldable pub moved_to : Thread → ℕ → Thread
moved_to t place = record { registers = t.registers; place = place; steps = t.steps + 1 }

-- one step taken, and the thread stands at the next instruction
unfoldable pub advanced : Thread → Thread
advanced t = moved_to t (sum 32 t.place 4)
