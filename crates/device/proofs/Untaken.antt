-- Each served turn takes at least 16 bytes, so a caller's loop over unchanging rings ends.
-- Assumes nothing.
use mathlib.Core.Path.{◌≡◌, refl, sym, ap}
use mathlib.Core.Bool.{Bool, true, false}
use mathlib.Core.List.{List}
use Prim.Native.Nat.{ℕ, zero, suc, ◌+◌, ◌≤◌, ◌<◌}
use native.Mathlib.Omega.{arith}
use lib.ListN.{length, set}
use lib.Seq.{get_or-set_same, get_or-set_other}
use lib.Dec.{eqb}
use borrow.Author.Tests.{eqb-true, eqb-false}
use native.Mathlib.Nat.{not-suc-le-zero}
use Rattle.command.specs.declared.header.Command.{Command}
use Rattle.work.specs.declared.work.Performed.{Performed}
use Rattle.command.specs.Header.{command_at}
use Rattle.command.proofs.Sizes.{size_least}
use Rattle.state.specs.declared.device.Device.{Device}
use Rattle.device.specs.declared.turn.Report.{Report}
use Rattle.device.specs.declared.turn.Answer.TheVariants.{Served}
use Rattle.state.specs.Device.{Shaped, ring_of, with_ring, with_slots, with_marker, with_counts}
use Rattle.device.specs.Turn.{Call, ring_in, unchanged, ring_after, device_after, finished, served_of, turn_of}
use Rattle.device.specs.Untaken.{untaken_of, sum_of, untaken_in}
use Rattle.command.proofs.Sizes.{whole-inside}
use Rattle.device.proofs.Turns.{turn_cases, picked_servable}
use Rattle.device.proofs.Shapes.{emit_alone}

module _ (d : Device) (q : ℕ) (c : Command) (p : Performed) where
  -- of the rings, the served one alone is changed
  pub rings-after : (device_after d q c p).rings ≡ set d.rings q (ring_after (ring_of d q) c p.frame)
  unfolding device_after with_counts with_marker with_ring with_slots
  rings-after = ap (λ after. after.rings) (emit_alone _ _ c.rdst)

  pub served-ring : q < length d.rings → ring_of (device_after d q c p) q ≡ ring_after (ring_of d q) c p.frame
  unfolding ring_of
  served-ring h = rw rings-after (get_or-set_same d.rings q _ _ h)

  pub other_ring : (j : ℕ) → (j ≡ q → ⊥) → ring_of (device_after d q c p) j ≡ ring_of d j
  unfolding ring_of
  other_ring j h = rw rings-after (get_or-set_other d.rings q j _ _ h)

-- a served ring has at least 16 bytes fewer untaken, the others as many as before
module _ (d : Device) (q : ℕ) (ring : List ℕ) (p : Performed) (four : length d.rings ≡ 4) (number : q < 4)
    (inside : (ring_of d q).cursor + (command_at ring (ring_of d q).cursor).size ≤ length ring) where
  here : Device
  here = device_after d q (command_at ring (ring_of d q).cursor) p

  served_untaken : untaken_of here q ring + 16 ≤ untaken_of d q ring
  unfolding untaken_of here ring_after
  served_untaken =
      rw (served-ring d q (command_at ring (ring_of d q).cursor) p (omega arith))
      (omega (arith, size_least ring (ring_of d q).cursor))

  other_untaken : (j : ℕ) (other : List ℕ) → (j ≡ q → ⊥) → untaken_of here j other ≡ untaken_of d j other
  unfolding untaken_of here
  other_untaken j other h = rw (other_ring d q (command_at ring (ring_of d q).cursor) p j h)

-- sums of numbers that agree
same_sum : (n : ℕ) (f g : ℕ → ℕ) → ((j : ℕ) → j < n → f j ≡ g j) → sum_of n f ≡ sum_of n g
unfolding sum_of
same_sum zero f g same = refl
same_sum (suc n) f g same = rw (same_sum n f g (λ j h. same j (omega arith)), same n (omega arith))

-- a sum of which one number falls by 16 and the others stay falls by 16
sum_falls : (n : ℕ) (f g : ℕ → ℕ) (q : ℕ) → q < n → ((j : ℕ) → (j ≡ q → ⊥) → f j ≡ g j) → f q + 16 ≤ g q → sum_of n f + 16 ≤ sum_of n g
unfolding sum_of
sum_falls zero f g q h same less = absurd (not-suc-le-zero h)
sum_falls (suc n) f g q h same less = last (eqb q n) refl (λ b. sum_falls n f g q b same less)
  where
    last : (b : Bool) → eqb q n ≡ b → (q < n → sum_of n f + 16 ≤ sum_of n g) → sum_of n f + f n + 16 ≤ sum_of n g + g n
    last true e lower =
        let at : q ≡ n = eqb-true q n e in
        let below = same_sum n f g (λ j k. same j (λ (x : j ≡ q). omega arith)) in
        let here : f n + 16 ≤ g n = rw at at less in
        omega arith
    last false e lower =
        let apart = eqb-false q n e in
        let top = same n (λ (x : n ≡ q). apart (sym x)) in
        omega (arith, lower (omega arith))

-- a turn that serves leaves at least 16 bytes fewer
pub served_takes : (d : Device) (call : Call) → Shaped d → (report : Report) → (turn_of d call).turned.answer ≡ Served report
    → untaken_in (ring_in call) (turn_of d call).turned.device + 16 ≤ untaken_in (ring_in call) d
unfolding unchanged served_of finished untaken_in here
served_takes d call shaped report =
    turn_cases d call
    (λ end. end.turned.answer ≡ Served report → untaken_in (ring_in call) end.turned.device + 16 ≤ untaken_in (ring_in call) d)
    (λ why v e. absurd (grind arith))
    (λ sound p e. absurd (grind arith))
    (λ q sound p e.
    let s = picked_servable d call q sound p in
    let inside = whole-inside (ring_in call q) (ring_of d q).cursor s.whole in
    sum_falls 4 _ (λ j. untaken_of d j (ring_in call j)) q s.number
    (λ j h. other_untaken d q (ring_in call q) _ shaped.rings s.number inside j (ring_in call j) h)
    (served_untaken d q (ring_in call q) _ shaped.rings s.number inside))
