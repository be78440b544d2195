-- A refusal is refused, and serves no ring.
-- Assumes nothing.
use mathlib.Core.Path.{◌≡◌}
use mathlib.Core.Bool.{true}
use Prim.Native.Nat.{ℕ}
use borrow.Author.Tests.{le-leb}
use Rattle.state.specs.declared.refusal.Refusal.{Refusal}
use Rattle.device.specs.declared.turn.Answer.TheVariants.{Refused}
use Rattle.state.specs.Refusal.{refusal_number}
use Rattle.device.specs.Answer.{Values}
use Rattle.device.proofs.Answers.{refusal_least, refusal_not_0}
use Rattle.demands.specs.Calls.{served_with, is_refused}

pub is_refused_lem : (why : Refusal) → is_refused (Refused why) ≡ true
unfolding is_refused
is_refused_lem why = le-leb 101 (refusal_number why) (refusal_least why)

pub refused_serves : (value : Values → ℕ) (why : Refusal) (n : ℕ) → served_with value (Refused why) n ≡ 0
unfolding served_with
refused_serves value why n = rw (refusal_not_0 why)
