-- When the answer is idle, no order of starts gets further than the device did.
-- Assumes nothing.
use mathlib.Core.Path.{◌≡◌, refl, sym}
use mathlib.Core.Bool.{Bool, true, false}
use mathlib.Core.List.{List}
use mathlib.Core.Logic.{⊎_elim}
use Prim.Native.Nat.{ℕ, ◌≤◌, ◌<◌}
use native.Mathlib.Nat.{eq-or-lt_of_le}
use native.Mathlib.Omega.{arith}
use lib.Dec.{eqb}
use borrow.Author.Tests.{eqb-true, eqb-false}
use Rattle.std.specs.Prelude.{None, Ok}
use Rattle.state.specs.declared.device.Device.{Device}
use Rattle.state.specs.declared.edition.Start.{Start}
use Rattle.device.specs.declared.turn.Answer.TheVariants.{Idle}
use Rattle.state.specs.Device.{fresh_device, ring_of, slot_of}
use Rattle.state.specs.Ready.{ready_where, ready_at, pick_of}
use Rattle.device.specs.Turn.{Call, unchanged, finished, report_of, served_of, ring_in, verdict_on, pick_in}
use Rattle.demands.specs.Calls.{answer_of, last_of}
use Rattle.demands.specs.RingCommands.{place_of, nth}
use Rattle.demands.specs.Targets.{TargetsNear}
use Rattle.demands.specs.Idle.{count_of, one_more, Order, nothing, start, IdleIsDone}
use Rattle.device.proofs.Answers.{idle-answer}
use Rattle.device.proofs.Turns.{turn_cases, call_steady}
use Rattle.demands.proofs.Walks.{seek_reaches, distance}
use Rattle.demands.proofs.Emitting.{waiting_slot}
use Rattle.demands.proofs.Rising.{ready_under, holds_plain, ready_rises}
use Rattle.demands.proofs.Orders.{more-here, more_other, count_rises}
use Rattle.demands.proofs.Took.{Took, few_emits, run_took, fresh_took}

-- an idle call is not refused, and picks no ring
idle_picks : (d : Device) (call : Call) → answer_of d call ≡ Idle → (verdict_on d call ≡ Ok tt) × (pick_in d call ≡ None)
unfolding unchanged served_of finished report_of
idle_picks d call e =
    turn_cases d call (λ a. a.turned.answer ≡ Idle → (verdict_on d call ≡ Ok tt) × (pick_in d call ≡ None))
    (λ why v a. absurd (grind arith))
    (λ sound p a. (sound, p))
    (λ r sound p a. absurd (grind arith))
    e

-- so no ring is ready
idle_unready : (d : Device) (call : Call) → answer_of d call ≡ Idle → (q : ℕ) → q < 4 → ready_at d q (ring_in call q) ≡ true → ⊥
unfolding pick_of
idle_unready d call e q four ready =
    let idle = idle_picks d call e in
    let away = distance d.marker q (call_steady d call idle.0).marker four in
    let reached = seek_reaches (λ r. ready_at d r (ring_in call r)) 4 away.0 d.marker away.1 (rw away.2 ready) in
    let nobody = idle.1 in
    let z : ◌≡◌ {A = ℕ} 0 1 = cc (nobody, reached.2) in omega arith

module _ (chosen : Start) (R : ℕ → List ℕ) (near : TargetsNear chosen R) where
  -- an order of starts stays behind a device of which no ring is ready and whose slots few commands have emitted to
  behind : (d : Device) (t : ℕ → ℕ) → Took chosen R d t → ((s : ℕ) → count_of R t s ≤ 16384)
      → ((q : ℕ) → q < 4 → ready_at d q (R q) ≡ true → ⊥) → {n : ℕ → ℕ} → Order chosen R n → (q : ℕ) → n q ≤ t q
  unfolding ready_at ready_where slot_of TargetsNear
  behind d t took few unready nothing q = omega arith
  behind d t took few unready (start {n} before r four whole ready) q = go (λ p. behind d t took few unready before p) (eqb q r) refl
    where
      caught_up : ((q : ℕ) → n q ≤ t q) → n r ≡ t r → ⊥
      caught_up le same =
          let at : (ring_of d r).cursor ≡ place_of (R r) (n r) = rw same (took.cursors r four) in
          let c = nth (R r) (n r) in
          let s = c.rdst in
          let met =
          ready_rises chosen c _ _ (count_of R n s) (count_of R t s) (near r (n r) four whole) (λ waits. holds_plain chosen _)
          (λ waits. took.slots s (waiting_slot c waits)) (count_rises R n t s le) (omega (arith, few s)) ready in
          unready r four (rw (at, whole) (ready_under (sym took.edition) c _ met))

      go : ((q : ℕ) → n q ≤ t q) → (b : Bool) → eqb q r ≡ b → one_more n r q ≤ t q
      go le true e =
          let here : q ≡ r = eqb-true q r e in
          rw (here, more-here n r) (⊎_elim (λ same. absurd (caught_up le same)) (λ less. less) (eq-or-lt_of_le (le r)))
      go le false e = rw (more_other n r q (eqb-false q r e)) (le q)

pub idle-is_done : IdleIsDone
unfolding IdleIsDone
idle-is_done windows limit chosen R calls last near each lends idle n order q =
    let fresh = fresh_device windows limit chosen in
    let ran = run_took chosen R calls fresh (λ q. 0) (fresh_took chosen R windows limit) each in
    let said = idle-answer _ idle in
    let few = few_emits chosen R (last_of fresh calls) ran.0 ran.1 last (idle_picks (last_of fresh calls) last said).0 in
    let unready = idle_unready (last_of fresh calls) last said in
    let le = behind chosen R near _ ran.0 ran.1 few (λ p four ready. unready p four (rw (lends p four) ready)) order q in
    omega (arith, le, ran.2 q)
