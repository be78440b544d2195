-- The number by which an input is refused.
use Rattle.std.specs.Prelude.{ℕ}
use Rattle.job.specs.declared.fault.Fault.{Fault}
use Rattle.job.specs.declared.fault.Fault.TheVariants.{TooManyBytes, Windows, Ring0, Ring1, Ring2, Ring3, Kernels, Code, Memory, BytesLeftOver}

-- 1 to 8 is that of a section
abbrev pub fault_number : Fault → ℕ
fault_number TooManyBytes = 0
fault_number Windows = 1
fault_number Ring0 = 2
fault_number Ring1 = 3
fault_number Ring2 = 4
fault_number Ring3 = 5
fault_number Kernels = 6
fault_number Code = 7
fault_number Memory = 8
fault_number BytesLeftOver = 9
