-- The 64 completion slots hold 32-bit numbers: when a wait is met, when a slot is full, and what an emit leaves.
use Rattle.std.specs.Prelude.{ℕ, Bool, false, List, eqb, leb, ltb}
use Rattle.words.specs.Arithmetic.{difference}
use Rattle.state.specs.declared.edition.Edition.{Edition}
use Rattle.state.specs.declared.edition.Edition.TheVariants.{One, Two}
use Rattle.state.specs.PlusOne.{plus_one, plus_one_at}

-- a wait is met in edition 1 if the slot's number is at least the target, and in edition 2 if slot minus target, modulo
-- 4,294,967,296, is below 2,147,483,648
abbrev pub is_met : Edition → ℕ → ℕ → Bool
is_met One slot target = leb target slot
is_met Two slot target = ltb (difference 32 slot target) 2147483648

-- in edition 1 a slot that holds 4,294,967,295 is full; in edition 2 none is, and from there a slot goes to 0
abbrev pub is_full : Edition → ℕ → Bool
is_full One slot = eqb slot 4294967295
is_full Two slot = false

-- the number that an emit leaves in its slot
abbrev pub emitted : ℕ → ℕ
emitted slot = plus_one slot

-- an emit adds 1 to slot n, and leaves the others
abbrev pub emitted_in : List ℕ → ℕ → List ℕ
emitted_in slots n = plus_one_at slots n
