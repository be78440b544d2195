-- A ready ring is served within four turns: each turn that serves another ring brings the marker nearer to it.
-- Assumes nothing.
use mathlib.Core.Path.{◌≡◌, refl, sym, ap, ◌∙◌}
use mathlib.Core.Bool.{Bool, true, false}
use mathlib.Core.List.{List, [], ◌∷◌}
use mathlib.Core.Logic.{◌⊎◌, inl, inr, ⊎_elim}
use Prim.Native.Nat.{ℕ, ◌+◌, ◌≤◌, ◌<◌}
use native.Mathlib.Nat.{eq-or-lt_of_le, not-suc-le-zero}
use native.Mathlib.Omega.{arith}
use lib.Dec.{eqb}
use lib.ListN.{get_or}
use borrow.Author.Tests.{leb-true, le-leb, eqb-true, eqb-false}
use Rattle.std.specs.Prelude.{Ok, Some}
use Rattle.command.specs.Header.{command_at, is_whole}
use Rattle.command.proofs.Agree.{command-agree, whole_agree}
use Rattle.words.proofs.Choices.{both_left, both_right}
use Rattle.state.specs.declared.device.Device.{Device}
use Rattle.state.specs.declared.edition.Edition.TheVariants.{One}
use Rattle.state.specs.declared.edition.Start.{Start}
use Rattle.state.specs.Device.{fresh_device, SlotsFit, ring_of, slot_of}
use Rattle.device.specs.Answer.{values_of}
use Rattle.state.specs.Ready.{ready_with, ready_where, ready_at, pick_of}
use Rattle.device.specs.Turn.{Call, TurnEnd, turn_of, unchanged, report_of, finished, served_of, ring_in, pick_in, verdict_on}
use Rattle.command.proofs.Sizes.{whole-inside}
use Rattle.device.proofs.Shapes.{after-edition}
use Rattle.device.proofs.Untaken.{other_ring}
use Rattle.demands.specs.Calls.{head_in, answer_of, left_by, last_of, is_refused, ServesRing, heard, EachHeard, none, more, Serves, here, later}
use Rattle.demands.specs.RingCommands.{place_of}
use Rattle.demands.specs.EmitsAndWaits.{is_waiting}
use Rattle.demands.specs.Targets.{NearStart, TargetsNear}
use Rattle.demands.specs.Bounded.{Lends}
use Rattle.demands.specs.Idle.{count_of, one_more}
use Rattle.demands.specs.FourTurns.{SameHead, FourTurns, FourTurnsByHead, FreshFourTurns}
use Rattle.demands.proofs.Answers.{is_refused_lem}
use Rattle.device.proofs.Turns.{served_in, turn_cases, call_steady, picked_servable}
use Rattle.demands.proofs.Turns.{work_in, served-heard}
use Rattle.demands.proofs.Works.{full_1, full_slot_stays}
use Rattle.demands.proofs.Devices.{after-marker, after_rises, after-fits}
use Rattle.demands.proofs.Emitting.{waiting_slot}
use Rattle.demands.proofs.Rising.{ready_if, ready_under, ready_rises}
use Rattle.demands.proofs.Orders.{count_not_less, count-one_more}
use Rattle.demands.proofs.Took.{Took, few_emits, next_took, run_took, fresh_took}
use Rattle.demands.proofs.Walks.{walk, walk_next, walk_rest, seek_reaches, distance}

-- what follows for each call holds of each call
each_more : {P Q : Call → Type 0} {d : Device} {calls : List Call} → ((call : Call) → P call → Q call)
    → EachHeard P d calls → EachHeard Q d calls
each_more f none = none
each_more f (more p each) = more (λ heard. f _ (p heard)) (each_more f each)

-- a refused call leaves the device, and another finds the marker among the rings
refused_or_marked : (d : Device) (call : Call)
    → ((is_refused (answer_of d call) ≡ true) × (left_by d call ≡ d)) ⊎ (d.marker < 4)
unfolding unchanged
refused_or_marked d call =
    turn_cases d call (λ a. ((is_refused a.turned.answer ≡ true) × (a.turned.device ≡ d)) ⊎ (d.marker < 4))
    (λ why e. inl (is_refused_lem why, refl))
    (λ sound e. inr (call_steady d call sound).marker)
    (λ r sound e. inr (call_steady d call sound).marker)

-- ring q's head command, the one at k of b, is ready
abbrev HeadReady : List ℕ → ℕ → Device → Type 0
HeadReady b k d = ready_with d.edition (command_at b k) (slot_of d (command_at b k).rdst) ≡ true

-- the head command of ring q is ready in devices that are Kept, and served turns over calls that are Lent keep them so
module _ (q : ℕ) (b : List ℕ) (k : ℕ) (Kept : Device → Type 0) (Lent : Call → Type 0) (ready-now : (d : Device) → Kept d → HeadReady b k d)
    (same_head : (call : Call) → Lent call → SameHead b k (ring_in call q))
    (keeps_on : (d : Device) (call : Call) (r : ℕ) → Kept d → Lent call → verdict_on d call ≡ Ok tt → pick_in d call ≡ Some r
    → Kept (served_in d call r).turned.device) where
  -- the ring is j further than the marker
  record Waiting (j : ℕ) (d : Device) : Type 0 where
    kept : Kept d
    cursor : (ring_of d q).cursor ≡ k
    away : walk j d.marker ≡ q
    small : j < 4

  -- what a turn does to a waiting ring
  data Step (j : ℕ) (d : Device) (a : TurnEnd) : Type 0 where
    refused : is_refused a.turned.answer ≡ true → a.turned.device ≡ d → Step j d a
    serves : ServesRing q a.turned.answer → Step j d a
    nearer : (i : ℕ) → is_refused a.turned.answer ≡ false → i < j → Waiting i a.turned.device → Step j d a

  -- a waiting ring is ready in each call that keeps its head
  still-ready : (j : ℕ) (d : Device) → Waiting j d → (r : List ℕ) → SameHead b k r → ready_at d q r ≡ true
  unfolding ready_at ready_where slot_of
  still-ready j d w r same =
      let c = command-agree b r k same.bytes in
      rw (w.cursor, whole_agree b r k same.bytes same.inside, ← c) (ready-now d w.kept)

  module _ (d : Device) (call : Call) (j : ℕ) (w : Waiting j d) where
    -- another ring, i further than the marker, is served
    passed_by : (i : ℕ) → i < j → (walk i d.marker ≡ q → ⊥) → Kept (served_in d call (walk i d.marker)).turned.device
        → Step j d (served_in d call (walk i d.marker))
    unfolding served_of finished report_of is_refused
    passed_by i less other kept =
        let r = walk i d.marker in
        let c = head_in d call r in
        let p = (work_in d call r).performed in
        let rest = walk_rest i j d.marker less in
        nearer rest.0 refl rest.1
        (record {
          kept = kept;
          cursor = ap (λ x. x.cursor) (other_ring d r c p q (λ e. other (sym e))) ∙ w.cursor;
          away = rw (after-marker d r c p, walk_next i d.marker) (rest.2 ∙ w.away);
          small = omega (arith, rest.1, w.small);
        })

    -- ring q itself is served
    served_now : (i : ℕ) → walk i d.marker ≡ q → Step j d (served_in d call (walk i d.marker))
    unfolding served_of finished report_of values_of
    served_now i e = serves (record { served = refl; ring = e })

    reached : SameHead b k (ring_in call q) → (i : ℕ) × (i ≤ j) × (pick_in d call ≡ Some (walk i d.marker))
    unfolding pick_of
    reached same =
        seek_reaches (λ r. ready_at d r (ring_in call r)) 4 j d.marker w.small
        (rw w.away (still-ready j d w (ring_in call q) same))

    picked : (r : ℕ) → verdict_on d call ≡ Ok tt → pick_in d call ≡ Some r → Lent call → Step j d (served_in d call r)
    picked r sound e lent =
        let near = reached (same_head call lent) in
        let i = near.0 in
        let found : r ≡ walk i d.marker = cc near.2 in
        rw found (go i near.1 (eqb (walk i d.marker) q) refl (rw found at (keeps_on d call r w.kept lent sound e)))
      where
        go : (i : ℕ) → i ≤ j → (t : Bool) → eqb (walk i d.marker) q ≡ t → Kept (served_in d call (walk i d.marker)).turned.device
            → Step j d (served_in d call (walk i d.marker))
        go i le true e kept = served_now i (eqb-true _ _ e)
        go i le false e kept =
            ⊎_elim
            (λ same. absurd (eqb-false _ _ e (ap (λ n. walk n d.marker) same ∙ w.away)))
            (λ less. passed_by i less (eqb-false _ _ e) kept)
            (eq-or-lt_of_le le)

    step : (is_refused (answer_of d call) ≡ false → Lent call) → Step j d (turn_of d call)
    unfolding unchanged is_refused
    step =
        turn_cases d call
        (λ a. (is_refused a.turned.answer ≡ false → Lent call) → Step j d a)
        (λ why e lent. refused (is_refused_lem why) refl)
        (λ sound e lent. absurd (let near = reached (same_head call (lent refl)) in let z : ◌≡◌ {A = ℕ} 0 1 = cc near.2 in omega arith))
        (λ r sound e lent. picked r sound e (lent (served-heard d call r)))

  -- as many turns as the ring is further than the marker, and one more
  near : (calls : List Call) (j : ℕ) (d : Device) → Waiting j d → EachHeard Lent d calls → j < heard d calls → Serves q k d calls
  unfolding heard
  near [] j d w each enough = absurd (not-suc-le-zero enough)
  near (call ∷ calls) j d w (more lent each) enough = go (near calls) (step d call j w lent)
    where
      go : ((i : ℕ) (d : Device) → Waiting i d → EachHeard Lent d calls → i < heard d calls → Serves q k d calls)
          → Step j d (turn_of d call) → Serves q k d (call ∷ calls)
      go further (refused r kept) = later (further j (left_by d call) (rw kept w) each (omega (arith, rw r at enough)))
      go further (serves s) = here w.cursor s
      go further (nearer i r less w') =
          let enough-more : j < 1 + heard (left_by d call) calls = rw r at enough in
          later (further i (left_by d call) w' each (omega arith))

  waits : q < 4 → (calls : List Call) (d : Device) → Kept d → (ring_of d q).cursor ≡ k → EachHeard Lent d calls → 4 ≤ heard d calls
      → Serves q k d calls
  unfolding heard
  waits four [] d kept at each enough = absurd (not-suc-le-zero enough)
  waits four (call ∷ calls) d kept at (more lent each) enough =
      ⊎_elim
      (λ r. later (waits four calls (left_by d call) (rw r.1 kept) (rw r.1 at) each (omega (arith, rw r.0 at enough))))
      (λ marked.
      let away = distance d.marker q marked four in
      near (call ∷ calls) away.0 d (record { kept = kept; cursor = at; away = away.2; small = away.1 }) (more lent each)
      (omega (arith, away.1, enough)))
      (refused_or_marked d call)

-- edition 1: the head stays ready because no slot is lowered
record Unlowered (b : List ℕ) (k : ℕ) (d : Device) : Type 0 where
  slots : SlotsFit d
  edition : d.edition ≡ One
  ready : HeadReady b k d

rises : (d : Device) (b : List ℕ) (k : ℕ) (call : Call) (r : ℕ) → Unlowered b k d → Unlowered b k (served_in d call r).turned.device
unfolding served_of finished
rises d b k call r was =
    let c = head_in d call r in
    let p = (work_in d call r).performed in
    let head = command_at b k in
    let same = after-edition d r c p in
    let rise = after_rises d r c p was.slots (λ e is. full_slot_stays c _ _ _ _ _ _ _ e ((full_1 was.edition).1 is)) head.rdst in
    record {
      slots = after-fits d r c p was.slots;
      edition = same ∙ was.edition;
      ready =
          ready_under (sym (same ∙ was.edition)) head _
          (ready_if One head _ _ (λ waits met. le-leb head.target _ (omega (arith, rise, leb-true head.target _ met)))
          (ready_under was.edition head _ was.ready));
    }

pub four_turns_by_head : FourTurnsByHead
unfolding FourTurnsByHead ready_at ready_where slot_of
four_turns_by_head d fit one q b calls four ready each enough =
    let k = (ring_of d q).cursor in
    waits q b k (Unlowered b k) (λ call. SameHead b k (ring_in call q)) (λ d kept. kept.ready) (λ call same. same)
    (λ d call r kept same sound pick. rises d b k call r kept) four calls d
    (record { slots = fit; edition = one; ready = both_right (is_whole b k) _ ready }) refl each enough

-- whole bytes that stay have the same head
same_bytes : (b : List ℕ) (k : ℕ) → is_whole b k ≡ true → (r : List ℕ) → r ≡ b → SameHead b k r
same_bytes b k whole r e = record { bytes = λ i low high. ap (λ r. get_or r i 0) (sym e); inside = rw e (whole-inside b k whole) }

pub four_turns : FourTurns
unfolding FourTurns FourTurnsByHead ready_at ready_where slot_of
four_turns d fit one q b calls four ready each enough =
    let k = (ring_of d q).cursor in
    let whole = both_left (is_whole b k) (ready_with d.edition (command_at b k) (slot_of d (command_at b k).rdst)) ready in
    four_turns_by_head d fit one q b calls four ready (each_more (λ call e. same_bytes b k whole (ring_in call q) e) each) enough

-- from fresh: the head stays ready because its slot's count rises and its target is near
record Counted (chosen : Start) (R : ℕ → List ℕ) (b : List ℕ) (k : ℕ) (d : Device) : Type 0 where
  taken : ℕ → ℕ
  took : Took chosen R d taken
  ready : HeadReady b k d

module _ (chosen : Start) (R : ℕ → List ℕ) (b : List ℕ) (k : ℕ)
    (near : is_waiting (command_at b k) ≡ true → NearStart chosen (command_at b k).target) where
  counted_on : (d : Device) (call : Call) (r : ℕ) → Counted chosen R b k d → Lends R call → verdict_on d call ≡ Ok tt → pick_in d call ≡ Some r
      → Counted chosen R b k (served_in d call r).turned.device
  counted_on d call r was lends sound pick =
      let t = was.taken in
      let next = next_took chosen R d t was.took call lends r sound pick in
      let head = command_at b k in
      let s = head.rdst in
      let few = few_emits chosen R d t was.took call sound s in
      let below = (picked_servable d call r sound pick).number in
      record {
        taken = one_more t r;
        took = next;
        ready =
            ready_under (sym next.edition) head _
            (ready_rises chosen head _ _ (count_of R t s) (count_of R (one_more t r) s) near
            (λ waits. was.took.slots s (waiting_slot head waits)) (λ waits. next.slots s (waiting_slot head waits))
            (count_not_less R t r s below) (omega (arith, few, count-one_more R t r s below))
            (ready_under was.took.edition head _ was.ready));
      }

pub fresh_four_turns : FreshFourTurns
unfolding FreshFourTurns TargetsNear ready_at ready_where slot_of
fresh_four_turns windows limit chosen R before near each-before q calls four ready each enough =
    let fresh = fresh_device windows limit chosen in
    let d = last_of fresh before in
    let ran = run_took chosen R before fresh (λ q. 0) (fresh_took chosen R windows limit) each-before in
    let k = (ring_of d q).cursor in
    let at : k ≡ place_of (R q) (ran.0 q) = ran.1.cursors q four in
    let whole = both_left (is_whole (R q) k) (ready_with d.edition (command_at (R q) k) (slot_of d (command_at (R q) k).rdst)) ready in
    let near-head : is_waiting (command_at (R q) k) ≡ true → NearStart chosen (command_at (R q) k).target =
    λ waits. rw at (near q (ran.0 q) four (rw at at whole) (rw at at waits)) in
    waits q (R q) k (Counted chosen R (R q) k) (Lends R) (λ d kept. kept.ready)
    (λ call lends. same_bytes (R q) k whole (ring_in call q) (lends q four))
    (counted_on chosen R (R q) k near-head) four calls d
    (record { taken = ran.0; took = ran.1; ready = both_right (is_whole (R q) k) _ ready }) refl each enough
