-- Turns over unchanging rings come to an end.
-- Assumes nothing.
use mathlib.Core.Path.{◌≡◌, refl, ap}
use mathlib.Core.Bool.{false, cond}
use mathlib.Core.List.{List, [], ◌∷◌}
use mathlib.Core.Logic.{◌⊎◌, inl, inr}
use Prim.Native.Nat.{ℕ, ◌+◌, ◌*◌, ◌≤◌, ◌<◌}
use native.Mathlib.Nat.{not-suc-le-zero}
use native.Mathlib.Omega.{arith}
use lib.Dec.{eqb, lit<}
use Rattle.state.specs.declared.device.Device.{Device}
use Rattle.state.specs.declared.refusal.Refusal.{Refusal}
use Rattle.device.specs.declared.turn.Report.{Report}
use Rattle.device.specs.declared.turn.Answer.{Answer}
use Rattle.device.specs.declared.turn.Answer.TheVariants.{Refused, Idle, Served}
use Rattle.state.specs.Device.{Shaped, fresh_device, ring_of}
use Rattle.device.specs.Answer.{answer_number, values_of}
use Rattle.device.specs.Turn.{Call, ring_in}
use Rattle.device.specs.Untaken.{untaken_of, sum_of, untaken_in}
use Rattle.device.proofs.Verdicts.{each_of_four}
use Rattle.device.proofs.Untaken.{served_takes}
use Rattle.device.proofs.Shapes.{turn-shaped, fresh-shaped}
use Rattle.demands.specs.Calls.{answer_of, left_by, served_with, served_with_in, is_refused, heard, none, more}
use Rattle.demands.specs.Bounded.{Lends, served, taken, SaysIdle, here, later, TurnsBounded, IdleInTime, FreshIdleInTime}
use Rattle.device.proofs.Answers.{refusal_least}
use Rattle.demands.proofs.Answers.{is_refused_lem, refused_serves}
use Rattle.device.proofs.Turns.{picked_servable}
use Rattle.demands.proofs.Turns.{was_served}
use Rattle.demands.proofs.Keeps.{keeps}
use Rattle.demands.proofs.Sums.{sum_both}

-- the untaken bytes of a call's rings
lent_untaken : (R : ℕ → List ℕ) (d : Device) (call : Call) → Lends R call → untaken_in (ring_in call) d ≡ untaken_in R d
unfolding untaken_in sum_of
lent_untaken R d call lends = rw (lends 0 (lit< tt), lends 1 (lit< tt), lends 2 (lit< tt), lends 3 (lit< tt))

-- a served turn takes one command
one-served : (report : Report) → report.ring < 4 → sum_of 4 (served (Served report)) ≡ 1
unfolding sum_of served_with values_of
one-served report four =
    each_of_four (λ r. 0 + cond (eqb 0 r) 1 0 + cond (eqb 1 r) 1 0 + cond (eqb 2 r) 1 0 + cond (eqb 3 r) 1 0 ≡ 1) refl refl refl refl report.ring four

-- a refused one none
none-served : (why : Refusal) → sum_of 4 (served (Refused why)) ≡ 0
unfolding sum_of
none-served why = let none = refused_serves (λ values. values.ring) why in rw (none 0, none 1, none 2, none 3)

-- and its bytes; a turn that serves none takes none, and it is refused or idle
record Takes (R : ℕ → List ℕ) (d after : Device) (answer : Answer) : Type 0 where
  bytes : 16 * sum_of 4 (served answer) + untaken_in R after ≤ untaken_in R d
  counts : (answer ≡ Idle) ⊎ (cond (is_refused answer) 0 1 ≡ sum_of 4 (served answer))

module _ (d : Device) (call : Call) (R : ℕ → List ℕ) (shaped : Shaped d) where
  turn_takes : (is_refused (answer_of d call) ≡ false → Lends R call) → Takes R d (left_by d call) (answer_of d call)
  unfolding sum_of served_with is_refused
  turn_takes lends = go (answer_of d call) refl lends
    where
      go : (answer : Answer) → answer_of d call ≡ answer → (is_refused answer ≡ false → Lends R call) → Takes R d (left_by d call) answer
      go (Refused why) e lends =
          let same = ((keeps d call).refused (rw e (refusal_least why))).device in
          let none = none-served why in
          record { bytes = omega (arith, ap (untaken_in R) same, none); counts = inr (rw (is_refused_lem why, none)) }
      go Idle e lends =
          let same = ((keeps d call).idle (rw e)).device in
          record { bytes = omega (arith, ap (untaken_in R) same); counts = inl refl }
      go (Served report) e lends =
          let was = was_served d call report e in
          let one = one-served report (picked_servable d call report.ring was.sound was.pick).number in
          let lent = lends refl in
          record {
            bytes = omega (arith, one, served_takes d call shaped report e, lent_untaken R d call lent, lent_untaken R (left_by d call) call lent);
            counts = inr (omega (arith, one));
          }

none-taken : (d : Device) → sum_of 4 (taken d []) ≡ 0
unfolding served_with_in sum_of
none-taken d = refl

pub turns_bounded : TurnsBounded
unfolding TurnsBounded served_with_in
turns_bounded d shaped R [] none = omega (arith, none-taken d)
turns_bounded d shaped R (call ∷ calls) (more lends each) =
    let now = turn_takes d call R shaped lends in
    let further = turns_bounded (left_by d call) (turn-shaped d call shaped) R calls each in
    let both = sum_both (taken d (call ∷ calls)) (served (answer_of d call)) (taken (left_by d call) calls) (λ q four. refl) in
    omega (arith, now.bytes, further, both)

pub idle_in_time : IdleInTime
unfolding IdleInTime heard
idle_in_time d shaped R [] none enough = absurd (not-suc-le-zero enough)
idle_in_time d shaped R (call ∷ calls) (more lends each) enough =
    let now = turn_takes d call R shaped lends in
    go now.bytes now.counts (idle_in_time (left_by d call) (turn-shaped d call shaped) R calls each)
  where
    go : 16 * sum_of 4 (served (answer_of d call)) + untaken_in R (left_by d call) ≤ untaken_in R d
        → (answer_of d call ≡ Idle) ⊎ (cond (is_refused (answer_of d call)) 0 1 ≡ sum_of 4 (served (answer_of d call)))
        → (untaken_in R (left_by d call) < 16 * heard (left_by d call) calls → SaysIdle (left_by d call) calls)
        → SaysIdle d (call ∷ calls)
    go bytes (inl idle) further = here (ap answer_number idle)
    go bytes (inr counted) further = later (further (omega (arith, bytes, counted, enough)))

pub fresh-idle_in_time : FreshIdleInTime
unfolding FreshIdleInTime IdleInTime fresh_device ring_of untaken_of untaken_in sum_of
fresh-idle_in_time windows limit chosen R calls each enough =
    idle_in_time (fresh_device windows limit chosen) (fresh-shaped windows limit chosen) R calls each (omega (arith, enough))
