-- A device stays sound, so a call on its own memory is refused only for what it lends.
-- Assumes nothing.
use mathlib.Core.Path.{◌≡◌, refl, sym, ap, ◌∙◌}
use mathlib.Core.Bool.{Bool, true, false, cond}
use mathlib.Core.List.{[], ◌∷◌}
use mathlib.Core.List.{List}
use Prim.Native.Nat.{ℕ, ◌+◌, ◌≤◌, ◌<◌}
use native.Mathlib.Omega.{arith}
use lib.Dec.{leb, lit≤, lit<}
use lib.ListN.{length}
use borrow.Author.Tests.{eqb-true, le-leb, lt-leb}
use Rattle.std.specs.Prelude.{Err, Ok, Result, Some}
use Rattle.memory.proofs.Window.{window-length}
use Rattle.command.specs.Outcome.{is_done}
use Rattle.command.specs.Frame.{held_fault}
use Rattle.words.proofs.Choices.{both_right, not_held}
use Rattle.work.proofs.Kept.{performed-frame}
use Rattle.state.specs.declared.device.Window.{Window}
use Rattle.state.specs.declared.device.Device.{Device}
use Rattle.state.specs.declared.edition.Start.{Start}
use Rattle.state.specs.declared.edition.Start.TheVariants.{Edition1}
use Rattle.state.specs.declared.refusal.Refusal.{Refusal}
use Rattle.state.specs.Counts.{balanced}
use Rattle.state.specs.Device.{Shaped, empty_windows, fresh_device, empty_device, default_limit, ring_of, slot_of}
use Rattle.device.specs.Answer.{answer_number}
use Rattle.state.specs.Refusal.{refusal_number, window_fits, memory_fits, windows_fit, ring_sound, limit_fits, state_sound, verdict_of}
use Rattle.state.proofs.Limits.{default_fits, limit_unfit}
use Rattle.device.specs.Fresh.{not_made, fresh_with}
use Rattle.device.specs.Turn.{Call, unchanged, ring_after, report_of, finished, served_of, verdict_on, ring_in, pick_in}
use Rattle.state.proofs.Seeks.{next_below}
use Rattle.device.proofs.Verdicts.{limit_sound, counts_sound, rings_sound}
use Rattle.command.proofs.Sizes.{whole-inside}
use Rattle.demands.specs.Calls.{head_in, answer_of, left_by, none, more}
use Rattle.demands.specs.EachStep.{window_in}
use Rattle.demands.specs.Sound.{StaysSound, TurnStaysSound, LeavesSound, TurnLeavesSound, RefusedForLent, SoundRefusals, FreshMakesSound, CallsStaySound, FreshStaysSound, MakesSound, lent_rings_fit}
use Rattle.device.proofs.Shapes.{after-limit, turn-shaped, made_shaped}
use Rattle.device.proofs.Turns.{served_in, turn_cases, picked_servable, turn-refused}
use Rattle.demands.proofs.Turns.{work_in}
use Rattle.demands.proofs.Devices.{after-marker, after-ring, after-windows, after-balanced}
use Rattle.state.specs.Slots.{is_full}
use Rattle.pack.specs.Kernels.{sound_pack}

-- a state with its marker among four sound rings, a limit that fits and counts whose sums agree is sound
sound_if : (d : Device) → d.marker < 4 → limit_fits d.limit ≡ true → balanced d.counts ≡ true
    → ((q : ℕ) → q < 4 → ring_sound (ring_of d q) ≡ true) → state_sound d ≡ true
unfolding state_sound
sound_if d marker limit counts rings =
    rw (le-leb d.marker 3 (omega arith), limit, counts, rings 0 (lit< tt), rings 1 (lit< tt), rings 2 (lit< tt), rings 3 (lit< tt))

-- what holds of the numbers that a verdict may give
abbrev Numbers : (ℕ → Type 0) → Result Unit Refusal → Type 0
Numbers P (Ok heard) = (n : ℕ) → n ≤ 1 → P n
Numbers P (Err why) = P (refusal_number why)

module _ (d : Device) (shaped : Shaped d) (call : Call) where
  -- the ring that a turn served is sound: its cursor ends in its bytes, and its frame is one that SET_FB did not refuse
  module _ (q : ℕ) (sound : verdict_on d call ≡ Ok tt) (pick : pick_in d call ≡ Some q) (state : state_sound d ≡ true) where
    cursor-inside : (ring_of d q).cursor + (head_in d call q).size ≤ 65536
    cursor-inside =
        let s = picked_servable d call q sound pick in
        omega (arith, whole-inside (ring_in call q) (ring_of d q).cursor s.whole)

    frame_passes : is_done (held_fault (work_in d call q).performed.frame (ring_of d q).window.length) ≡ true
    unfolding ring_sound
    frame_passes =
        let s = picked_servable d call q sound pick in
        let c = head_in d call q in
        let long = window-length (ring_of d q).window.start (ring_of d q).window.length call.memory s.fits in
        let held = both_right (leb (ring_of d q).cursor 65536) _ (rings_sound d state q s.number) in
        rw long at (performed-frame c (is_full d.edition (slot_of d c.rdst)) (ring_in call q) (window_in d call q) (ring_of d q).frame call.pack call.pipe d.limit (rw long held))

    served_sound : state_sound (served_in d call q).turned.device ≡ true
    unfolding served_of finished ring_after ring_sound
    served_sound =
        let c = head_in d call q in
        let p = (work_in d call q).performed in
        sound_if _ (rw (after-marker d q c p) (next_below q (picked_servable d call q sound pick).number))
        (rw (after-limit d q c p) (limit_sound d state))
        (after-balanced d q c p shaped (picked_servable d call q sound pick).number (counts_sound d state))
        (λ n four.
        after-ring d q c p (λ r. ring_sound r ≡ true) n (λ e. rw (le-leb _ 65536 cursor-inside, frame_passes)) (rings_sound d state n four))

  left_sound : state_sound d ≡ true → state_sound (left_by d call) ≡ true
  unfolding unchanged
  left_sound state =
      turn_cases d call (λ a. state_sound a.turned.device ≡ true)
      (λ why v. state)
      (λ sound p. state)
      (λ q sound p. served_sound q sound p state)

  left-balanced : balanced d.counts ≡ true → balanced (left_by d call).counts ≡ true
  unfolding unchanged served_of finished
  left-balanced agree =
      turn_cases d call (λ a. balanced a.turned.device.counts ≡ true)
      (λ why v. agree)
      (λ sound p. agree)
      (λ q sound p.
      after-balanced d q (head_in d call q) (work_in d call q).performed shaped (picked_servable d call q sound p).number agree)

module _ (d : Device) (call : Call) where
  left-windows : (n : ℕ) → (ring_of (left_by d call) n).window ≡ (ring_of d n).window
  unfolding unchanged served_of finished
  left-windows n =
      turn_cases d call (λ a. (ring_of a.turned.device n).window ≡ (ring_of d n).window)
      (λ why v. refl)
      (λ sound p. refl)
      (λ q sound p. after-windows d q (head_in d call q) (work_in d call q).performed n)

  left-fits : (memory : ℕ) → windows_fit (left_by d call) memory ≡ windows_fit d memory
  unfolding windows_fit
  left-fits memory = rw (left-windows 0, left-windows 1, left-windows 2, left-windows 3)

  -- a refused call's number is its refusal's
  refused-number : {why : Refusal} → verdict_on d call ≡ Err why → answer_number (answer_of d call) ≡ refusal_number why
  unfolding unchanged
  refused-number {why} e = ap (λ end. answer_number end.turned.answer) (turn-refused d call why e)

  -- one that is not refused is idle or served
  heard-number : verdict_on d call ≡ Ok tt → answer_number (answer_of d call) ≤ 1
  unfolding unchanged served_of finished report_of
  heard-number sound =
      turn_cases d call (λ a. answer_number a.turned.answer ≤ 1)
      (λ why v. absurd (grind arith))
      (λ sound p. lit≤ tt)
      (λ q sound p. lit≤ tt)

  -- what each number has where it may be given, a call's number has
  number_has : (P : ℕ → Type 0) → (windows_fit d (length call.memory) ≡ false → P 101) → (state_sound d ≡ false → P 102)
      → (state_sound d ≡ true → P 103 × P 104 × P 105 × ((n : ℕ) → n ≤ 1 → P n)) → P (answer_number (answer_of d call))
  unfolding verdict_on verdict_of
  number_has P memory state sound =
      go (verdict_on d call) refl
      (each (windows_fit d (length call.memory)) (state_sound d) (lent_rings_fit d call) (leb 1020 (length call.pipe)) (sound_pack call.pack) refl refl)
    where
      each : (m s r p k : Bool) → windows_fit d (length call.memory) ≡ m → state_sound d ≡ s
          → Numbers P (cond m (cond s (cond r (cond p (cond k (Ok tt) (Err Refusal.Pack)) (Err Refusal.Pipe)) (Err Refusal.Rings)) (Err Refusal.State)) (Err Refusal.Memory))
      each true true true true true em es = (sound es).3
      each true true true true false em es = (sound es).2
      each true true true false k em es = (sound es).1
      each true true false p k em es = (sound es).0
      each true false r p k em es = state es
      each false s r p k em es = memory em

      go : (v : Result Unit Refusal) → verdict_on d call ≡ v → Numbers P v → P (answer_number (answer_of d call))
      go (Ok heard) e numbers = numbers _ (heard-number e)
      go (Err why) e numbers = rw (refused-number e) numbers

  -- so 101 and 102 are no number of a call where they may not be given
  number_not : (k : ℕ) → 2 ≤ k → k ≤ 102 → (windows_fit d (length call.memory) ≡ false → k ≡ 101 → ⊥) → (state_sound d ≡ false → k ≡ 102 → ⊥)
      → answer_number (answer_of d call) ≡ k → ⊥
  number_not k low high memory state =
      number_has (λ n. n ≡ k → ⊥) (λ e same. memory e (sym same)) (λ e same. state e (sym same))
      (λ sound. (λ same. omega arith, λ same. omega arith, λ same. omega arith, λ n h same. omega arith))

  -- and a call whose number is another is from a sound state
  other_sound : (answer_number (answer_of d call) ≡ 101 → ⊥) → (answer_number (answer_of d call) ≡ 102 → ⊥) → state_sound d ≡ true
  other_sound =
      number_has (λ n. (n ≡ 101 → ⊥) → (n ≡ 102 → ⊥) → state_sound d ≡ true) (λ e not_101 not_102. absurd (not_101 refl))
      (λ e not_101 not_102. absurd (not_102 refl))
      (λ sound. (λ a b. sound, λ a b. sound, λ a b. sound, λ n h a b. sound))

  -- a state that is not sound is refused where the windows fit
  unsound_refused : windows_fit d (length call.memory) ≡ true → (state_sound d ≡ true → ⊥) → answer_number (answer_of d call) ≡ 102
  unfolding verdict_on verdict_of
  unsound_refused fits unsound = refused-number {why = Refusal.State} (rw (fits, not_held (state_sound d) unsound))

  stays_sound : StaysSound d call
  unfolding balanced
  stays_sound = record {
    windows = left-windows;
    fits = left-fits;
    not_102 = λ state. number_not 102 (lit≤ tt) (lit≤ tt) (λ e same. omega arith) (λ e same. let z : ◌≡◌ {A = ℕ} 0 1 = cc in omega arith);
    not_101 = λ fits. number_not 101 (lit≤ tt) (lit≤ tt) (λ e same. let z : ◌≡◌ {A = ℕ} 0 1 = cc in omega arith) (λ e same. omega arith);
    limit_102 = λ fits outside.
        unsound_refused fits (λ sound.
        let unfit = limit_unfit d.limit outside in
        let fits-too = limit_sound d sound in
        let z : ◌≡◌ {A = ℕ} 0 1 = cc in omega arith);
    counts_102 = λ fits differ. unsound_refused fits (λ sound. differ (eqb-true _ _ (counts_sound d sound)));
  }

  leaves_sound : Shaped d → LeavesSound d call
  leaves_sound shaped = record {
    state = left_sound d shaped call;
    agree = left-balanced d shaped call;
    agreed = λ not_101 not_102. left-balanced d shaped call (counts_sound d (other_sound not_101 not_102));
  }

  refused_for_lent : state_sound d ≡ true → windows_fit d (length call.memory) ≡ true → RefusedForLent d call
  unfolding verdict_on verdict_of
  refused_for_lent state fits = record {
    rings = λ no. refused-number {why = Refusal.Rings} (rw (fits, state, no));
    pipe = λ yes short. refused-number {why = Refusal.Pipe} (rw (fits, state, yes, lt-leb 1020 (length call.pipe) short));
    pack = λ yes room no. refused-number {why = Refusal.Pack} (rw (fits, state, yes, le-leb 1020 (length call.pipe) room, no));
    heard = λ yes room sound. heard-number (rw (fits, state, yes, le-leb 1020 (length call.pipe) room, sound));
  }

pub turn_stays_sound : TurnStaysSound
unfolding TurnStaysSound
turn_stays_sound d call = stays_sound d call

pub turn-leaves_sound : TurnLeavesSound
unfolding TurnLeavesSound
turn-leaves_sound d shaped call = leaves_sound d call shaped

pub sound_refusals : SoundRefusals
unfolding SoundRefusals
sound_refusals d call = refused_for_lent d call

fresh_sound : (windows : List Window) (limit : ℕ) (chosen : Start) → limit_fits limit ≡ true
    → state_sound (fresh_device windows limit chosen) ≡ true
unfolding fresh_device ring_of state_sound ring_sound held_fault balanced
fresh_sound windows limit chosen fits = rw fits

fresh-fits : (memory : ℕ) (windows : List Window) (limit : ℕ) (chosen : Start)
    → windows_fit (fresh_device windows limit chosen) memory ≡ memory_fits memory windows
unfolding fresh_device ring_of windows_fit memory_fits
fresh-fits memory windows limit chosen = refl

-- four empty windows fit every memory that is not too long
empty-fit : (n : ℕ) → n ≤ 1048576 → memory_fits n empty_windows ≡ true
unfolding memory_fits window_fits
empty-fit n short = rw (le-leb n 1048576 short, le-leb 0 n (omega arith))

-- the empty device is sound, and its windows fit every memory that is not too long
empty_sound : state_sound empty_device ≡ true
unfolding empty_device
empty_sound = fresh_sound empty_windows default_limit Edition1 default_fits

empty-fits : (n : ℕ) → n ≤ 1048576 → windows_fit empty_device n ≡ true
unfolding empty_device
empty-fits n short = fresh-fits n empty_windows default_limit Edition1 ∙ empty-fit n short

pub fresh_makes_sound : FreshMakesSound
unfolding FreshMakesSound fresh_with not_made
fresh_makes_sound memory windows limit chosen = go (memory_fits memory windows) (limit_fits limit) refl refl
  where
    go : (m l : Bool) → memory_fits memory windows ≡ m → limit_fits limit ≡ l → MakesSound memory windows limit chosen
    go true true fits limited = record {
      state = rw (fits, limited) (fresh_sound windows limit chosen limited);
      fits = λ made. rw (fits, limited) (fresh-fits memory windows limit chosen ∙ fits);
      empty = λ refused n short. absurd (let z : 101 ≤ 0 = rw (fits, limited) at refused in omega arith);
    }
    go true false fits unfit = record {
      state = rw (fits, unfit) empty_sound;
      fits = λ made. absurd (let z : ◌≡◌ {A = ℕ} 102 0 = rw (fits, unfit) at made in omega arith);
      empty = λ refused n short. rw (fits, unfit) (empty-fits n short);
    }
    go false l unfit limited = record {
      state = rw unfit empty_sound;
      fits = λ made. absurd (let z : ◌≡◌ {A = ℕ} 101 0 = rw unfit at made in omega arith);
      empty = λ refused n short. rw unfit (empty-fits n short);
    }

pub calls_stay_sound : CallsStaySound
unfolding CallsStaySound
calls_stay_sound d shaped memory [] state fits = none
calls_stay_sound d shaped memory (call ∷ calls) state fits =
    more (record { not_102 = (stays_sound d call).not_102 state; lent = λ same. refused_for_lent d call state (rw same fits) })
    (calls_stay_sound (left_by d call) (turn-shaped d call shaped) memory calls (left_sound d shaped call state) (left-fits d call memory ∙ fits))

pub fresh_stays_sound : FreshStaysSound
unfolding FreshStaysSound FreshMakesSound CallsStaySound
fresh_stays_sound memory windows limit chosen calls made =
    let fresh = fresh_makes_sound memory windows limit chosen in
    calls_stay_sound (fresh_with memory windows limit chosen).device (made_shaped memory windows limit chosen) memory calls fresh.state (fresh.fits made)
