-- How far a device is in unchanging rings: what it took, what its slots hold, and what its counts tell.
-- Assumes nothing.
use mathlib.Core.Path.{◌≡◌, refl, sym, ◌∙◌}
use mathlib.Core.Bool.{Bool, true, false, ◌&&◌, cond}
use mathlib.Core.List.{List, [], ◌∷◌}
use mathlib.Core.Logic.{⊎_elim}
use Prim.Native.Nat.{ℕ, zero, suc, ◌+◌, ◌≤◌, ◌<◌}
use native.Mathlib.Omega.{arith}
use native.Mathlib.Nat.{eq-or-lt_of_le, le_of_suc-le-suc, not-suc-le-zero}
use lib.Dec.{eqb, ltb, lit<}
use lib.ListN.{length, get_or, replicate, get_or-replicate, get_or-eq_default}
use borrow.Author.Tests.{eqb-true, eqb-false, eq-eqb, ltb-true, ltb-false}
use Rattle.std.specs.Prelude.{Ok, Some, sum}
use Rattle.command.specs.declared.header.Command.{Command}
use Rattle.command.specs.Report.{emits}
use Rattle.command.specs.Header.{is_whole}
use Rattle.command.specs.Outcome.{outcome_number}
use Rattle.command.proofs.Outcomes.{outcome_below}
use Rattle.work.specs.declared.work.Performed.{Performed}
use Rattle.state.specs.declared.device.Window.{Window}
use Rattle.state.specs.declared.device.Device.{Device}
use Rattle.state.specs.declared.edition.Start.{Start}
use Rattle.state.specs.Device.{Shaped, fresh_device, ring_of, slot_of, commands_of}
use Rattle.state.specs.Edition.{edition_of, first_of}
use Rattle.state.specs.Slots.{is_full, emitted}
use Rattle.state.specs.PlusOne.{plus_one}
use Rattle.state.specs.Counts.{counted}
use Rattle.state.proofs.Totals.{count_within, total-most}
use Rattle.state.proofs.PlusOne.{total_changes}
use Rattle.device.specs.Turn.{Call, unchanged, device_after, finished, served_of, verdict_on, pick_in}
use Rattle.device.specs.Untaken.{sum_of}
use Rattle.device.proofs.Verdicts.{each_of_four}
use Rattle.device.proofs.Turns.{served_in, turn_cases, call_steady, picked_servable}
use Rattle.device.proofs.Shapes.{after-edition, after-counts, after-shaped, fresh-shaped}
use Rattle.demands.specs.Calls.{head_in, answer_of, left_by, served_with, served_with_in, last_of, is_refused, EachHeard, none, more}
use Rattle.demands.specs.Bounded.{Lends, served, taken}
use Rattle.demands.specs.RingCommands.{place_of, nth}
use Rattle.demands.specs.EmitsAndWaits.{is_emitting}
use Rattle.demands.specs.Idle.{emits_in, count_of, one_more}
use Rattle.demands.proofs.Answers.{refused_serves}
use Rattle.demands.proofs.Turns.{work_in, served-heard}
use Rattle.demands.proofs.Works.{emits_when_sound}
use Rattle.demands.proofs.Devices.{after-emitted, after_no_emit, after_other_slot}
use Rattle.demands.proofs.Served.{served-cursor, served_others, served_is}
use Rattle.demands.proofs.Emitting.{emitting_slot}
use Rattle.demands.proofs.Rising.{Holds, holds_first, holds_more, holds_free, zero_free}
use Rattle.demands.proofs.Orders.{hit, place-least, more-here, more_other, count-more, count_most}
use Rattle.demands.proofs.Counting.{served-one}

-- the device has taken t q commands of each ring q
pub record Took (chosen : Start) (R : ℕ → List ℕ) (d : Device) (t : ℕ → ℕ) : Type 0 where
  pub shaped : Shaped d
  pub edition : d.edition ≡ edition_of chosen
  pub cursors : (q : ℕ) → q < 4 → (ring_of d q).cursor ≡ place_of (R q) (t q)
  pub slots : (s : ℕ) → s < 64 → Holds chosen (slot_of d s) (count_of R t s)
  pub counts : (q : ℕ) → q < 4 → commands_of d q ≡ t q
  pub whole : (q : ℕ) → q < 4 → (n : ℕ) → n < t q → is_whole (R q) (place_of (R q) n) ≡ true
  pub sums : sum d.counts.outcomes ≡ sum d.counts.commands

-- a slot changes exactly where a command emits to it
module _ (d : Device) (q : ℕ) (c : Command) (p : Performed) (shaped : Shaped d) (when : emits c p.outcome ≡ is_emitting c) (s : ℕ) where
  put : is_emitting c ≡ true → slot_of (device_after d q c p) c.rdst ≡ emitted (slot_of d c.rdst)
  put e = after-emitted d q c p shaped (emitting_slot c e) (when ∙ e)

  stays : is_emitting c ≡ false → slot_of (device_after d q c p) s ≡ slot_of d s
  unfolding slot_of
  stays e = rw (after_no_emit d q c p (when ∙ e))

  slot-after : slot_of (device_after d q c p) s ≡ cond (is_emitting c && eqb c.rdst s) (emitted (slot_of d s)) (slot_of d s)
  slot-after = go (is_emitting c) refl (eqb c.rdst s) refl
    where
      go : (b : Bool) → is_emitting c ≡ b → (t : Bool) → eqb c.rdst s ≡ t
          → slot_of (device_after d q c p) s ≡ cond (b && t) (emitted (slot_of d s)) (slot_of d s)
      go true e true same = rw (← eqb-true c.rdst s same) (put e)
      go true e false other = after_other_slot d q c p s (λ same. eqb-false c.rdst s other (sym same))
      go false e t same = stays e

-- a ring holds at most 4,096 commands
module _ (chosen : Start) (R : ℕ → List ℕ) (d : Device) (t : ℕ → ℕ) (took : Took chosen R d t) (call : Call) (sound : verdict_on d call ≡ Ok tt) where
  few : (q : ℕ) → q < 4 → t q ≤ 4096
  few q four = omega (arith, place-least (R q) (t q), took.cursors q four, (call_steady d call sound).cursors q four)

  -- so few emit to a slot
  pub few_emits : (s : ℕ) → count_of R t s ≤ 16384
  unfolding sum_of
  few_emits s = omega (arith, count_most R t s, few 0 (lit< tt), few 1 (lit< tt), few 2 (lit< tt), few 3 (lit< tt))

  -- and none is full
  slot_free : (s : ℕ) → is_full d.edition (slot_of d s) ≡ false
  unfolding slot_of
  slot_free s = rw took.edition (go (ltb s 64) refl)
    where
      go : (b : Bool) → ltb s 64 ≡ b → is_full (edition_of chosen) (slot_of d s) ≡ false
      go true e = holds_free chosen (slot_of d s) (count_of R t s) (few_emits s) (took.slots s (ltb-true s 64 e))
      go false e =
          let past : length d.slots ≤ s = omega (arith, ltb-false s 64 e, took.shaped.slots) in
          rw (get_or-eq_default d.slots 0 past) (zero_free chosen)

  -- and no count goes round
  few_in_all : sum d.counts.commands ≤ 16384
  unfolding commands_of
  few_in_all =
      let four = took.shaped.commands in
      let each : (n : ℕ) → n < length d.counts.commands → get_or d.counts.commands n 0 ≤ 4096 =
      λ n below. let one : n < 4 = omega (arith, four, below) in omega (arith, took.counts n one, few n one) in
      omega (arith, four, total-most d.counts.commands each)

module _ (chosen : Start) (R : ℕ → List ℕ) where
  -- a served ring has one more command taken
  module _ (d : Device) (t : ℕ → ℕ) (took : Took chosen R d t) (call : Call) (lends : Lends R call) (r : ℕ)
      (sound : verdict_on d call ≡ Ok tt) (pick : pick_in d call ≡ Some r) where
    ring_below : r < 4
    ring_below = (picked_servable d call r sound pick).number

    head : head_in d call r ≡ nth (R r) (t r)
    head = rw (lends r ring_below, took.cursors r ring_below)

    next-cursor : (q : ℕ) → q < 4 → (ring_of (served_in d call r).turned.device q).cursor ≡ place_of (R q) (one_more t r q)
    unfolding place_of
    next-cursor q four = go (eqb q r) refl
      where
        go : (b : Bool) → eqb q r ≡ b → (ring_of (served_in d call r).turned.device q).cursor ≡ place_of (R q) (one_more t r q)
        go true e =
            rw (eqb-true q r e, more-here t r)
            (served-cursor d call r took.shaped sound pick ∙ rw (head, took.cursors r ring_below))
        go false e =
            let other = eqb-false q r e in
            rw (more_other t r q other) (served_others d call r q other ∙ took.cursors q four)

    next-slot : (s : ℕ) → s < 64 → Holds chosen (slot_of (served_in d call r).turned.device s) (count_of R (one_more t r) s)
    unfolding served_of finished
    next-slot s below =
        let c = head_in d call r in
        let free = slot_free chosen R d t took call sound c.rdst in
        let more = holds_more chosen (is_emitting c && eqb c.rdst s) _ _ (few_emits chosen R d t took call sound s) (took.slots s below) in
        let counts : count_of R t s + hit c s ≡ count_of R (one_more t r) s = rw head (sym (count-more R t r s ring_below)) in
        rw (slot-after d r c (work_in d call r).performed took.shaped (emits_when_sound _ _ _ _ _ _ _ _ free) s, ← counts) more

    next-edition : (served_in d call r).turned.device.edition ≡ edition_of chosen
    unfolding served_of finished
    next-edition = after-edition d r (head_in d call r) (work_in d call r).performed ∙ took.edition

    next-shaped : Shaped (served_in d call r).turned.device
    unfolding served_of finished
    next-shaped = after-shaped d r (head_in d call r) (work_in d call r).performed took.shaped

    next-counts : (q : ℕ) → q < 4 → commands_of (served_in d call r).turned.device q ≡ one_more t r q
    unfolding one_more
    next-counts q four = (served-one d took.shaped call r sound pick).commands q ∙ go (eqb q r)
      where
        go : (b : Bool) → cond b (plus_one (commands_of d q)) (commands_of d q) ≡ cond b (suc (t q)) (t q)
        go true = omega (arith, took.counts q four, few chosen R d t took call sound q four)
        go false = took.counts q four

    next-whole : (q : ℕ) → q < 4 → (n : ℕ) → n < one_more t r q → is_whole (R q) (place_of (R q) n) ≡ true
    next-whole q four n below = go (eqb q r) refl
      where
        own : n < suc (t r) → is_whole (R r) (place_of (R r) n) ≡ true
        own h =
            let last : n ≡ t r → is_whole (R r) (place_of (R r) n) ≡ true =
            λ same. rw (same, ← took.cursors r ring_below, ← lends r ring_below) (picked_servable d call r sound pick).whole in
            ⊎_elim last (λ less. took.whole r ring_below n less) (eq-or-lt_of_le (le_of_suc-le-suc h))

        go : (b : Bool) → eqb q r ≡ b → is_whole (R q) (place_of (R q) n) ≡ true
        go true e = let here = eqb-true q r e in rw here (own (rw (here, more-here t r) at below))
        go false e = took.whole q four n (rw (more_other t r q (eqb-false q r e)) at below)

    next-sums : sum (served_in d call r).turned.device.counts.outcomes ≡ sum (served_in d call r).turned.device.counts.commands
    unfolding served_of finished counted commands_of
    next-sums =
        let p = (work_in d call r).performed in
        let k = outcome_number p.outcome in
        let all = few_in_all chosen R d t took call sound in
        let ring = total_changes d.counts.commands r (omega (arith, took.shaped.commands, ring_below)) in
        let outcome = total_changes d.counts.outcomes k (omega (arith, took.shaped.outcomes, outcome_below p.outcome)) in
        rw (after-counts d r (head_in d call r) p)
        (omega (arith, took.sums, all, ring, outcome, count_within d.counts.commands r, count_within d.counts.outcomes k))

    pub next_took : Took chosen R (served_in d call r).turned.device (one_more t r)
    next_took = record {
      shaped = next-shaped;
      edition = next-edition;
      cursors = next-cursor;
      slots = next-slot;
      counts = next-counts;
      whole = next-whole;
      sums = next-sums;
    }

    next-taken : (q : ℕ) → one_more t r q ≡ t q + served (served_in d call r).turned.answer q
    next-taken q = rw (served_is d call r q) (go (eqb q r) refl)
      where
        go : (b : Bool) → eqb q r ≡ b → one_more t r q ≡ t q + cond (eqb q r) 1 0
        go true e = let here = eqb-true q r e in rw (here, more-here t r, eq-eqb r r refl) (omega arith)
        go false e = rw (more_other t r q (eqb-false q r e), e) (omega arith)

  turn_took : (d : Device) (t : ℕ → ℕ) → Took chosen R d t → (call : Call) → (is_refused (answer_of d call) ≡ false → Lends R call)
      → (u : ℕ → ℕ) × Took chosen R (left_by d call) u × ((q : ℕ) → u q ≡ t q + served (answer_of d call) q)
  unfolding unchanged served_with
  turn_took d t took call =
      turn_cases d call
      (λ a. (is_refused a.turned.answer ≡ false → Lends R call)
      → (u : ℕ → ℕ) × Took chosen R a.turned.device u × ((q : ℕ) → u q ≡ t q + served a.turned.answer q))
      (λ why v lends. (t, took, λ q. omega (arith, refused_serves (λ values. values.ring) why q)))
      (λ v p lends. (t, took, λ q. omega arith))
      (λ r v p lends.
      let lent = lends (served-heard d call r) in
      (one_more t r, next_took d t took call lent r v p, next-taken d t took call lent r v p))

  pub run_took : (calls : List Call) (d : Device) (t : ℕ → ℕ) → Took chosen R d t → EachHeard (Lends R) d calls
      → (u : ℕ → ℕ) × Took chosen R (last_of d calls) u × ((q : ℕ) → u q ≡ t q + taken d calls q)
  unfolding last_of served_with_in
  run_took [] d t took none = (t, took, λ q. omega arith)
  run_took (call ∷ calls) d t took (more lends each) =
      let first = turn_took d t took call lends in
      let rest = run_took calls (left_by d call) first.0 first.1 each in
      (rest.0, rest.1, λ q. omega (arith, first.2 q, rest.2 q))

zeros : (k n : ℕ) → ◌≡◌ {A = ℕ} (get_or (replicate k 0) n 0) 0
zeros zero n = refl
zeros (suc k) zero = refl
zeros (suc k) (suc n) = zeros k n

-- a fresh device has taken nothing
module _ (chosen : Start) (R : ℕ → List ℕ) (windows : List Window) (limit : ℕ) where
  fresh-slots : (s : ℕ) → s < 64 → Holds chosen (slot_of (fresh_device windows limit chosen) s) 0
  unfolding fresh_device slot_of
  fresh-slots s below = rw (get_or-replicate 64 s (first_of chosen) 0 below) (holds_first chosen)

  pub fresh_took : Took chosen R (fresh_device windows limit chosen) (λ q. 0)
  unfolding fresh_device ring_of commands_of place_of emits_in sum_of
  fresh_took = record {
    shaped = fresh-shaped windows limit chosen;
    edition = refl;
    cursors = each_of_four (λ q. (ring_of (fresh_device windows limit chosen) q).cursor ≡ 0) refl refl refl refl;
    slots = fresh-slots;
    counts = λ q four. zeros 4 q;
    whole = λ q four n below. absurd (not-suc-le-zero below);
    sums = refl;
  }
