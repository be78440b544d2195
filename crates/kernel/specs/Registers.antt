-- The register file: it starts with 32 of each kind. A register is read and written by number, whatever their count.
use Rattle.std.specs.Prelude.{ℕ, ◌%◌, ◌^◌, cond, get_or, set, replicate, eqb}
use Rattle.memory.specs.declared.quad.Quad.{Quad}
use Rattle.instruction.specs.Vectors.{broadcast, with_quad}
use Rattle.kernel.specs.declared.registers.Registers.{Registers}

-- all start at 0 but s1 group, s2 thread in the group, s3 threads in a group, s4 groups
unfoldable pub start_registers : ℕ → ℕ → ℕ → ℕ → Registers
start_registers group thread threads groups = record {
  scalars = set (set (set (set (replicate 32 0) 1 group) 2 thread) 3 threads) 4 groups;
  vectors = replicate 32 (broadcast 0);
}

-- scalar register n; s0 always reads 0
unfoldable pub scalar_of : Registers → ℕ → ℕ
scalar_of r n = cond (eqb n 0) 0 (get_or r.scalars n 0)

-- the file with x, kept to 32 bits, in scalar register n
unfoldable pub with_scalar : Registers → ℕ → ℕ → Registers
with_scalar r n x = record { scalars = set r.scalars n (x % 2 ^ 32); vectors = r.vectors }

-- the file with four words in vector register n
unfoldable pub with_vector : Registers → ℕ → Quad → Registers
with_vector r n q = record { scalars = r.scalars; vectors = with_quad r.vectors n q }
