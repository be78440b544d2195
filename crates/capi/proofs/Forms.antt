-- A fresh device is formed, and so is the device that a turn of a formed one leaves.
-- Assumes nothing.
use Rattle.std.proofs.Common.{Option, Some, None}
use mathlib.Core.Path.{◌≡◌, refl}
use mathlib.Core.Bool.{Bool, true, false}
use mathlib.Core.List.{List, [], ◌∷◌, ◌++◌}
use Prim.Native.Nat.{ℕ, suc, ◌^◌, ◌<◌}
use native.Mathlib.Omega.{arith}
use lib.Dec.{eqb, lit<}
use borrow.Author.Tests.{eqb-true, eqb-false}
use Rattle.memory.proofs.Places.{word_fits}
use Rattle.command.specs.declared.header.Command.{Command}
use Rattle.command.specs.declared.frame.Frame.{Frame}
use Rattle.work.specs.declared.work.Performed.{Performed}
use Rattle.command.specs.Frame.{held_by, stride_of}
use Rattle.command.specs.Header.{command_at}
use Rattle.command.specs.Report.{emits}
use Rattle.work.specs.Work.{Left, leaves, ran_as, after_dispatch}
use Rattle.work.specs.Perform.{performed_of}
use Rattle.work.proofs.Works.{work_has}
use Rattle.work.proofs.Performs.{performed_has}
use Rattle.state.specs.declared.device.Window.{Window}
use Rattle.state.specs.declared.device.Ring.{Ring}
use Rattle.state.specs.declared.device.Device.{Device}
use Rattle.state.specs.declared.edition.Edition.{Edition}
use Rattle.state.specs.declared.edition.Edition.TheVariants.{One, Two}
use Rattle.state.specs.declared.edition.Start.{Start}
use Rattle.state.specs.declared.edition.Start.TheVariants.{Edition1}
use Rattle.state.specs.Edition.{edition_number, first_of}
use Rattle.state.specs.Device.{Shaped, SlotsFit, CountsFit, empty_window, empty_windows, nth_window, default_limit, fresh_device, empty_device, ring_of, slot_of, commands_of, outcomes_of, with_ring, with_marker, with_counts}
use Rattle.device.specs.Turn.{ring_in, unchanged, ring_after, device_after, finished, served_of}
use Rattle.state.proofs.Seeks.{next_below}
use Rattle.state.proofs.Limits.{limit_within}
use Rattle.device.proofs.Verdicts.{each_of_four}
use Rattle.device.proofs.Turns.{turn_cases, picked_servable}
use Rattle.command.proofs.Sizes.{whole-inside}
use Rattle.device.proofs.Untaken.{served-ring, other_ring}
use Rattle.device.proofs.Shapes.{emit_fits, after-limit, after-counts-fit, after-shaped, fresh-shaped, made_each}
use Rattle.capi.specs.Image.{held_of, base_of, format_of, ring_words, rings_words, counts_words, last_words, words_of, window_at}
use Rattle.capi.specs.Calls.{windows_in}
use Rattle.capi.specs.Inverse.{OfBytes, Formed}
use Rattle.capi.specs.Follows.{FreshForms, TurnForms}
use Rattle.capi.proofs.Fits.{Fits, fits-none, fits_more, fits_both, fits-left, fits-right, fits_alike}

-- what is below 2^32 in a frame, and in a ring
record FrameFits (f : Option Frame) : Type 0 where
  held : held_of f < 2 ^ 32
  base : base_of f < 2 ^ 32
  stride : stride_of f < 2 ^ 32
  format : format_of f < 2 ^ 32

ring_fits : (r : Ring) → r.window.start < 2 ^ 32 → r.window.length < 2 ^ 32 → r.cursor < 2 ^ 32 → FrameFits r.frame → Fits (ring_words r)
unfolding ring_words
ring_fits r start long cursor frame =
    fits_more start (fits_more long (fits_more cursor (fits_more frame.held (fits_more frame.base (fits_more frame.stride (fits_more frame.format fits-none))))))

frame_in : (r : Ring) → Fits (ring_words r) → FrameFits r.frame
unfolding ring_words
frame_in r h = record { held = h.at 3; base = h.at 4; stride = h.at 5; format = h.at 6 }

edition-fits : (e : Edition) → edition_number e < 2 ^ 32
edition-fits One = omega arith
edition-fits Two = omega arith

-- a device whose rings, slots, marker, limit and counts fit
module _ (d : Device) where
  pub formed : Shaped d → ((q : ℕ) → q < 4 → Fits (ring_words (ring_of d q))) → Fits d.slots → d.marker < 2 ^ 32
      → d.limit < 2 ^ 32 → CountsFit d → Formed d
  unfolding words_of rings_words counts_words commands_of outcomes_of
  formed shaped rings slots marker limit counts = record {
    shaped = shaped;
    fit = (fits_both (rings_words d ++ d.slots)
        (fits_both (rings_words d)
        (fits_both (ring_words (ring_of d 0) ++ ring_words (ring_of d 1) ++ ring_words (ring_of d 2))
        (fits_both (ring_words (ring_of d 0) ++ ring_words (ring_of d 1)) (fits_both (ring_words (ring_of d 0)) (rings 0 (lit< tt)) (rings 1 (lit< tt))) (rings 2 (lit< tt)))
        (rings 3 (lit< tt)))
        slots)
        (fits_more marker (fits_more limit
        (fits_both (counts_words d.counts)
        (fits_both d.counts.commands (record { at = counts.commands }) (record { at = counts.outcomes }))
        (fits_more (edition-fits d.edition) fits-none))))).at;
  }

  module _ (is : Formed d) where
    all : Fits (rings_words d ++ d.slots ++ last_words d)
    unfolding words_of
    all = record { at = is.fit }

    last_in : Fits (last_words d)
    last_in = fits-right (rings_words d ++ d.slots) all

    limit_in : d.limit < 2 ^ 32
    limit_in = last_in.at 1

    counts_in : CountsFit d
    unfolding counts_words commands_of outcomes_of
    counts_in =
        let rest : Fits (counts_words d.counts ++ (edition_number d.edition ∷ [])) = record { at = λ k. last_in.at (suc (suc k)) } in
        let counts : Fits (d.counts.commands ++ d.counts.outcomes) = fits-left (counts_words d.counts) _ rest in
        record { commands = (fits-left d.counts.commands d.counts.outcomes counts).at; outcomes = (fits-right d.counts.commands counts).at }

    before-marker : Fits (rings_words d ++ d.slots)
    before-marker = fits-left (rings_words d ++ d.slots) (last_words d) all

    slots_in : Fits d.slots
    slots_in = fits-right (rings_words d) before-marker

    rings_in : (q : ℕ) → q < 4 → Fits (ring_words (ring_of d q))
    unfolding rings_words
    rings_in =
        let all = fits-left (rings_words d) d.slots before-marker in
        let three = fits-left (ring_words (ring_of d 0) ++ ring_words (ring_of d 1) ++ ring_words (ring_of d 2)) (ring_words (ring_of d 3)) all in
        let two = fits-left (ring_words (ring_of d 0) ++ ring_words (ring_of d 1)) (ring_words (ring_of d 2)) three in
        each_of_four (λ q. Fits (ring_words (ring_of d q)))
        (fits-left (ring_words (ring_of d 0)) (ring_words (ring_of d 1)) two)
        (fits-right (ring_words (ring_of d 0)) two)
        (fits-right (ring_words (ring_of d 0) ++ ring_words (ring_of d 1)) three)
        (fits-right (ring_words (ring_of d 0) ++ ring_words (ring_of d 1) ++ ring_words (ring_of d 2)) all)

-- a command leaves its frame, or the one of its arguments
module _ (ring : List ℕ) (bytes : OfBytes ring) (cursor : ℕ) (full : Bool) (window : List ℕ) (frame : Option Frame) (pack pipe : List ℕ) (limit : ℕ) (h : FrameFits frame) where
  abbrev c : Command
  c = command_at ring cursor

  held_fits : FrameFits (Some (held_by c))
  unfolding held_by command_at
  held_fits = record { held = omega arith; base = word_fits ring _ bytes; stride = word_fits ring _ bytes; format = word_fits ring _ bytes }

  abbrev Held : Left → Type 0
  Held l = FrameFits l.performed.frame

  frame-after : Held (performed_of c full ring window frame pack pipe limit)
  unfolding leaves after_dispatch ran_as
  frame-after =
      performed_has c full ring window frame pack pipe limit Held
      (λ fine. work_has c ring window frame pack pipe limit Held (λ e. h) (λ e. h) (λ e. h) (λ e. h) (λ e. h) (λ e. h) (λ e. held_fits) h)
      (λ faulty. h)

-- the slots as a row of numbers
pub slots-row : (d : Device) → SlotsFit d → Fits d.slots
unfolding SlotsFit slot_of
slots-row d fit = record { at = fit }

row-slots : (d : Device) → Fits d.slots → SlotsFit d
unfolding SlotsFit slot_of
row-slots d row = row.at

-- so a served command leaves a formed device
module _ (d : Device) (q : ℕ) (c : Command) (p : Performed) (is : Formed d) (four : q < 4) (cursor : (ring_after (ring_of d q) c p.frame).cursor < 2 ^ 32)
    (frame : FrameFits p.frame) where
  own-ring : Fits (ring_words (ring_after (ring_of d q) c p.frame))
  unfolding ring_after ring_words
  own-ring =
      let old = rings_in d is q four in
      ring_fits (ring_after (ring_of d q) c p.frame) (old.at 0) (old.at 1) cursor frame

  ring_after_lem : (j : ℕ) → j < 4 → Fits (ring_words (ring_of (device_after d q c p) j))
  ring_after_lem j h = go (eqb j q) refl
    where
      go : (b : Bool) → eqb j q ≡ b → Fits (ring_words (ring_of (device_after d q c p) j))
      go true e = rw (eqb-true j q e, served-ring d q c p (omega (arith, is.shaped.rings))) own-ring
      go false e = rw (other_ring d q c p j (eqb-false j q e)) (rings_in d is j h)

  after-formed : Formed (device_after d q c p)
  unfolding device_after with_counts with_marker with_ring
  after-formed =
      formed (device_after d q c p) (after-shaped d q c p is.shaped) ring_after_lem
      (slots-row _ (emit_fits (emits c p.outcome) (with_ring d q (ring_after (ring_of d q) c p.frame)) c.rdst (row-slots _ (slots_in d is))))
      (omega (arith, next_below q four))
      (rw (after-limit d q c p) (limit_in d is))
      (after-counts-fit d q c p (counts_in d is))

pub turn-forms : TurnForms
unfolding served_of finished unchanged ring_after
turn-forms d is call bytes =
    turn_cases d call (λ end. Formed end.turned.device) (λ why v. is) (λ sound p. is)
    (λ q sound p.
    let s = picked_servable d call q sound p in
    after-formed d q _ _ is s.number
    (omega (arith, whole-inside (ring_in call q) (ring_of d q).cursor s.whole, s.short))
    (frame-after (ring_in call q) (bytes q) _ _ _ _ _ _ _ (frame_in (ring_of d q) (rings_in d is q s.number))))

-- a window whose two numbers fit
abbrev WindowFits : Window → Type 0
WindowFits w = (w.start < 2 ^ 32) × (w.length < 2 ^ 32)

fresh_ring : (w : Window) → WindowFits w → Fits (ring_words (record { window = w; cursor = 0; frame = None }))
fresh_ring w h = ring_fits _ h.0 h.1 (omega arith) (record { held = omega arith; base = omega arith; stride = omega arith; format = omega arith })

fresh-formed : (windows : List Window) (limit : ℕ) (start : Start) → ((q : ℕ) → q < 4 → WindowFits (nth_window windows q))
    → limit < 2 ^ 32 → first_of start < 2 ^ 32 → Formed (fresh_device windows limit start)
unfolding fresh_device ring_of commands_of outcomes_of
fresh-formed windows limit start each h first =
    let d = fresh_device windows limit start in
    formed d (fresh-shaped windows limit start)
    (each_of_four (λ q. Fits (ring_words (ring_of d q))) (fresh_ring _ (each 0 (omega arith))) (fresh_ring _ (each 1 (omega arith)))
    (fresh_ring _ (each 2 (omega arith))) (fresh_ring _ (each 3 (omega arith))))
    (fits_alike 64 first) (omega arith) h (record { commands = (fits_alike 4 (omega arith)).at; outcomes = (fits_alike 15 (omega arith)).at })

empty-formed : Formed empty_device
unfolding empty_device
empty-formed =
    fresh-formed empty_windows default_limit Edition1
    (each_of_four (λ q. WindowFits (nth_window empty_windows q)) empty empty empty empty) (omega arith) (omega arith)
  where
    empty : WindowFits empty_window
    empty = (omega arith, omega arith)

pub fresh-forms : FreshForms
unfolding window_at
fresh-forms windows memory limit start bytes first =
    made_each Formed memory four limit start empty-formed
    (λ fits.
    fresh-formed four limit start
    (each_of_four (λ q. WindowFits (nth_window four q)) (at 0) (at 2) (at 4) (at 6)) (omega (arith, (limit_within limit fits).1)) first)
  where
    four : List Window
    four = windows_in windows

    at : (k : ℕ) → WindowFits (window_at windows k)
    at k = (word_fits windows _ bytes, word_fits windows _ bytes)
