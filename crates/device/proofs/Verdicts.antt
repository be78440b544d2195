-- What a sound call is known to have, and so what a picked ring has.
-- Assumes nothing.
use mathlib.Core.Path.{◌≡◌, refl}
use mathlib.Core.Bool.{Bool, true, false, ◌&&◌, cond}
use mathlib.Core.List.{List}
use Prim.Native.Nat.{ℕ, zero, suc, ◌+◌, ◌%◌, ◌≤◌, ◌<◌}
use native.Mathlib.Omega.{arith}
use native.Mathlib.Nat.{le_of_suc-le-suc, not-suc-le-zero}
use lib.ListN.{length}
use Rattle.std.specs.Prelude.{Option, Some, Result, Ok, Err}
use lib.Dec.{leb, eqb}
use borrow.Author.Tests.{leb-true}
use Rattle.words.proofs.Choices.{both_left, both_right}
use Rattle.pack.specs.Kernels.{sound_pack}
use Rattle.state.specs.declared.device.Device.{Device}
use Rattle.state.specs.declared.refusal.Refusal.{Refusal}
use Rattle.state.specs.Counts.{balanced}
use Rattle.state.specs.Device.{ring_of}
use Rattle.state.specs.Refusal.{window_fits, memory_fits, windows_fit, ring_sound, limit_fits, state_sound, ring_fits, rings_fit, verdict_of}
use Rattle.state.specs.Ready.{ready_where, ready_at, next_ring, seek, bytes_of_ring, pick_of, Steady}
use Rattle.device.specs.Turn.{Servable}
use Rattle.state.proofs.Seeks.{next_below}

-- a sound call has passed a test, and what comes after it
passed : (test : Bool) (rest : Result Unit Refusal) (why : Refusal) → cond test rest (Err why) ≡ Ok tt → (test ≡ true) × (rest ≡ Ok tt)
passed true rest why e = (refl, e)
passed false rest why e = absurd (grind arith)

-- a sound call has passed each test
all_passed : (memory state rings pipe pack : Bool)
    → ◌≡◌ {A = Result Unit Refusal}
    (cond memory (cond state (cond rings (cond pipe (cond pack (Ok tt) (Err Refusal.Pack)) (Err Refusal.Pipe)) (Err Refusal.Rings)) (Err Refusal.State)) (Err Refusal.Memory))
    (Ok tt)
    → (memory ≡ true) × (state ≡ true) × (rings ≡ true) × (pipe ≡ true) × (pack ≡ true)
all_passed memory state rings pipe pack sound =
    let memory-passed = passed memory _ Refusal.Memory sound in
    let state-passed = passed state _ Refusal.State memory-passed.1 in
    let rings-passed = passed rings _ Refusal.Rings state-passed.1 in
    let pipe-passed = passed pipe _ Refusal.Pipe rings-passed.1 in
    let pack-passed = passed pack _ Refusal.Pack pipe-passed.1 in
    (memory-passed.0, state-passed.0, rings-passed.0, pipe-passed.0, pack-passed.0)

-- what holds of the numbers 0 to 3 holds of every number below 4
pub each_of_four : (P : ℕ → Type 0) → P 0 → P 1 → P 2 → P 3 → (q : ℕ) → q < 4 → P q
each_of_four P p0 p1 p2 p3 zero h = p0
each_of_four P p0 p1 p2 p3 (suc zero) h = p1
each_of_four P p0 p1 p2 p3 (suc (suc zero)) h = p2
each_of_four P p0 p1 p2 p3 (suc (suc (suc zero))) h = p3
each_of_four P p0 p1 p2 p3 (suc (suc (suc (suc q)))) h =
    absurd (not-suc-le-zero (le_of_suc-le-suc (le_of_suc-le-suc (le_of_suc-le-suc (le_of_suc-le-suc h)))))

-- four tests that all hold
pub all_four : (P : ℕ → Bool) → (P 0 && P 1 && P 2 && P 3) ≡ true → (q : ℕ) → q < 4 → P q ≡ true
all_four P e =
    let e012 = both_left (P 0 && P 1 && P 2) (P 3) e in
    let e01 = both_left (P 0 && P 1) (P 2) e012 in
    each_of_four (λ q. P q ≡ true) (both_left (P 0) (P 1) e01) (both_right (P 0) (P 1) e01) (both_right (P 0 && P 1) (P 2) e012)
    (both_right (P 0 && P 1 && P 2) (P 3) e)

-- what a sound state's own numbers pass
abbrev numbers : Device → Bool
numbers d = leb d.marker 3 && limit_fits d.limit && balanced d.counts

-- a sound state has a marker among its rings, a limit that fits, counts whose sums agree, and four sound rings
module _ (d : Device) (sound : state_sound d ≡ true) where
  numbers_sound : numbers d ≡ true
  unfolding state_sound
  numbers_sound = both_left (numbers d) _ sound

  marker_and_limit : (leb d.marker 3 && limit_fits d.limit) ≡ true
  marker_and_limit = both_left (leb d.marker 3 && limit_fits d.limit) _ numbers_sound

  pub marker_sound : d.marker < 4
  marker_sound = omega (arith, leb-true d.marker 3 (both_left (leb d.marker 3) _ marker_and_limit))

  pub limit_sound : limit_fits d.limit ≡ true
  limit_sound = both_right (leb d.marker 3) _ marker_and_limit

  pub counts_sound : balanced d.counts ≡ true
  counts_sound = both_right (leb d.marker 3 && limit_fits d.limit) _ numbers_sound

  pub rings_sound : (q : ℕ) → q < 4 → ring_sound (ring_of d q) ≡ true
  unfolding state_sound
  rings_sound = all_four (λ p. ring_sound (ring_of d p)) (both_right (numbers d) _ sound)

-- a picked ring is one of four and ready
found_step : (f : ℕ → Bool) (b : Bool) (p q : ℕ) (rest : Option ℕ) → f p ≡ b → p < 4 → (rest ≡ Some q → (q < 4) × (f q ≡ true))
    → cond b (Some p) rest ≡ Some q → (q < 4) × (f q ≡ true)
found_step f true p q rest fp h further e = let same : p ≡ q = cc in (rw (← same) h, rw (← same) fp)
found_step f false p q rest fp h further e = further e

pub found : (f : ℕ → Bool) (n p q : ℕ) → p < 4 → seek f p n ≡ Some q → (q < 4) × (f q ≡ true)
unfolding seek
found f zero p q h e = absurd (grind arith)
found f (suc n) p q h e = found_step f (f p) p q (seek f (next_ring p) n) refl h (found f n (next_ring p) q (next_below p h)) e

module _ (d : Device) (memory : ℕ) (r0 r1 r2 r3 : List ℕ) (pipe : ℕ) (pack : List ℕ)
    (sound : verdict_of d memory (length r0) (length r1) (length r2) (length r3) pipe pack ≡ Ok tt) where
  tests : (windows_fit d memory ≡ true) × (state_sound d ≡ true) × (rings_fit d (length r0) (length r1) (length r2) (length r3) ≡ true)
      × (leb 1020 pipe ≡ true) × (sound_pack pack ≡ true)
  unfolding verdict_of
  tests = all_passed (windows_fit d memory) (state_sound d) (rings_fit d (length r0) (length r1) (length r2) (length r3)) (leb 1020 pipe) (sound_pack pack) sound

  pub steady : Steady d
  unfolding ring_sound
  steady = record {
    marker = marker_sound d tests.1;
    cursors = λ q h. leb-true _ _ (both_left _ _ (rings_sound d tests.1 q h));
  }

  pub memory-short : memory ≤ 1048576
  unfolding windows_fit memory_fits
  memory-short = leb-true _ _ (both_left (leb memory 1048576) _ tests.0)

  window-inside : (q : ℕ) → q < 4 → (ring_of d q).window.start + (ring_of d q).window.length ≤ memory
  unfolding windows_fit memory_fits window_fits
  window-inside q h =
      let w = (ring_of d q).window in
      leb-true _ _ (both_right (eqb (w.start % 4) 0 && eqb (w.length % 4) 0) _
      (all_four (λ p. window_fits memory (ring_of d p).window) (both_right (leb memory 1048576) _ tests.0) q h))

  ring-short : (q : ℕ) → q < 4 → length (bytes_of_ring q r0 r1 r2 r3) ≤ 65536
  unfolding rings_fit ring_fits bytes_of_ring
  ring-short q h =
      leb-true _ _ (both_left _ _ (all_four (λ p. ring_fits (ring_of d p) (length (bytes_of_ring p r0 r1 r2 r3))) tests.2 q h))

  picked : (q : ℕ) → pick_of d r0 r1 r2 r3 ≡ Some q → (q < 4) × (ready_at d q (bytes_of_ring q r0 r1 r2 r3) ≡ true)
  unfolding pick_of
  picked q e = found (λ p. ready_at d p (bytes_of_ring p r0 r1 r2 r3)) 4 d.marker q steady.marker e

  pub servable : (q : ℕ) → pick_of d r0 r1 r2 r3 ≡ Some q → Servable d q memory (bytes_of_ring q r0 r1 r2 r3) pipe
  unfolding ready_at ready_where
  servable q e = record {
    number = (picked q e).0;
    fits = window-inside q (picked q e).0;
    cursor = steady.cursors q (picked q e).0;
    whole = both_left _ _ (picked q e).1;
    short = ring-short q (picked q e).0;
    room = leb-true 1020 pipe tests.3;
  }
