-- What the number of an answer tells of it.
-- Assumes nothing.
use mathlib.Core.Path.{◌≡◌, refl}
use mathlib.Core.Bool.{Bool, true, false}
use Prim.Native.Nat.{ℕ, ◌≤◌}
use native.Mathlib.Omega.{arith}
use lib.Dec.{eqb}
use Rattle.std.specs.Prelude.{is_some}
use Rattle.std.specs.Bool.{then_some}
use borrow.Author.Tests.{ne_eqb}
use Rattle.state.specs.declared.refusal.Refusal.{Refusal}
use Rattle.state.specs.declared.refusal.Refusal.TheVariants.{Memory, State, Rings, Pipe, Pack}
use Rattle.device.specs.declared.turn.Report.{Report}
use Rattle.device.specs.declared.turn.Answer.{Answer}
use Rattle.device.specs.declared.turn.Answer.TheVariants.{Refused, Idle, Served}
use Rattle.state.specs.Refusal.{refusal_number}
use Rattle.device.specs.Answer.{answer_number}

pub refusal_least : (why : Refusal) → 101 ≤ refusal_number why
refusal_least Memory = omega arith
refusal_least State = omega arith
refusal_least Rings = omega arith
refusal_least Pipe = omega arith
refusal_least Pack = omega arith

pub refusal_not_0 : (why : Refusal) → eqb (refusal_number why) 0 ≡ false
refusal_not_0 why = ne_eqb (refusal_number why) 0 (λ e. omega (arith, refusal_least why))

-- a fence is told apart from its number
pub emitted_told : (emitting : Bool) (n : ℕ) → is_some (then_some emitting n) ≡ emitting
emitted_told true n = refl
emitted_told false n = refl

-- 0 is a served turn's number alone, and 1 an idle one's
pub served-report : (a : Answer) → answer_number a ≡ 0 → (report : Report) × (a ≡ Served report)
served-report (Refused why) e = absurd (omega (arith, refusal_least why))
served-report Idle e = absurd (omega arith)
served-report (Served report) e = (report, refl)

pub idle-answer : (a : Answer) → answer_number a ≡ 1 → a ≡ Idle
idle-answer (Refused why) e = absurd (omega (arith, refusal_least why))
idle-answer Idle e = refl
idle-answer (Served report) e = absurd (omega arith)
