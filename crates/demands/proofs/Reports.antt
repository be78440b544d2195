-- What is reported of a served command, and what it changes in the device.
-- Assumes nothing.
use Rattle.std.proofs.Common.{Some}
use mathlib.Core.Path.{◌≡◌, refl, ap, subst, ◌∙◌}
use mathlib.Core.Bool.{Bool, true, false, ◌&&◌, ◌||◌}
use mathlib.Core.Logic.{◌⊎◌, ◌↔◌, inl, inr, ⊎_elim}
use Prim.Native.Nat.{ℕ, ◌≤◌, ◌<◌}
use native.Mathlib.Omega.{arith}
use lib.Dec.{ltb, leb}
use borrow.Author.Tests.{leb-true, le-leb, ltb-true, lt-ltb}
use Rattle.command.specs.declared.header.Command.{Command}
use Rattle.work.specs.declared.work.Performed.{Performed}
use Rattle.command.specs.Flags.{irq_bit, emit_bit}
use Rattle.command.proofs.Outcomes.{done_number, number_done}
use Rattle.command.specs.declared.opcode.Opcode.TheVariants.{ReadMem}
use Rattle.command.specs.Opcode.{is_opcode}
use Rattle.command.proofs.Opcodes.{opcode_is}
use Rattle.command.specs.Outcome.{Outcome, outcome_number, is_done}
use Rattle.command.specs.Report.{emits, interrupts, words_read}
use Rattle.kernel.specs.Site.{no_site}
use Rattle.command.specs.Frame.{held_by}
use Rattle.work.proofs.Sites.{performed-no_stop}
use Rattle.words.proofs.Choices.{both_left, both_right, not_held}
use Rattle.state.specs.declared.device.Device.{Device}
use Rattle.device.specs.declared.turn.Report.{Report}
use Rattle.device.specs.declared.turn.Answer.TheVariants.{Served}
use Rattle.state.specs.Device.{Shaped, SlotsFit, ring_of, slot_of}
use Rattle.state.specs.PlusOne.{plus_one}
use Rattle.device.specs.Answer.{Values, values_of, report_values}
use Rattle.state.specs.Ready.{ready_at, pick_of}
use Rattle.device.specs.Turn.{Call, ring_after, device_after, finished, served_of, ring_in, report_of}
use Rattle.std.proofs.lemmas.Bool.{and_from}
use Rattle.device.proofs.Answers.{emitted_told}
use Rattle.device.proofs.Verdicts.{found}
use Rattle.device.proofs.Untaken.{served-ring, other_ring}
use Rattle.device.proofs.Shapes.{after-limit, after-edition, after-shaped}
use Rattle.demands.specs.Calls.{head_in, left_by}
use Rattle.demands.specs.Reports.{Signals, Interrupts, Reads, SetsFrame, Reported, Serving, TurnReports}
use Rattle.device.proofs.Turns.{call_steady}
use Rattle.demands.proofs.Turns.{work_in, WasServed, served_as}
use Rattle.demands.proofs.Works.{frame-set, frame-kept}
use Rattle.demands.proofs.Devices.{after-marker, after-fits, after-emitted, after_no_emit, after_other_slot, after-counts-one}
use Rattle.demands.proofs.Emitting.{emits_in_range}

one_of : (a b : Bool) → (a ≡ true) ⊎ (b ≡ true) → (a || b) ≡ true
one_of true b s = refl
one_of false b s = ⊎_elim (λ e. cc) (λ e. e) s

which : (a b : Bool) → (a || b) ≡ true → (a ≡ true) ⊎ (b ≡ true)
which true b e = inl refl
which false b e = inr e

module _ (c : Command) (o : Outcome) where
  pub signals : (emits c o ≡ true) ↔ Signals c (outcome_number o)
  unfolding emits
  signals = (
    λ e. (both_left (emit_bit c.flags) _ e, ⊎_elim (λ z. inl (done_number o z)) (λ l. inr (leb-true _ _ l)) (which _ _ (both_right (emit_bit c.flags) _ e))),
    λ s. and_from _ _ s.0 (one_of (is_done o) (leb 6 (outcome_number o)) (⊎_elim (λ z. inl (number_done o z)) (λ l. inr (le-leb _ _ l)) s.1)),
  )

  pub interrupts_when : (interrupts c o ≡ true) ↔ Interrupts c (outcome_number o)
  unfolding interrupts
  interrupts_when = (
    λ e. (both_left (irq_bit c.flags) _ e, ⊎_elim (λ z. inl (done_number o z)) (λ l. inr (ltb-true _ _ l)) (which _ _ (both_right (irq_bit c.flags) _ e))),
    λ s. and_from _ _ s.0 (one_of (is_done o) (ltb 4 (outcome_number o)) (⊎_elim (λ z. inl (number_done o z)) (λ l. inr (lt-ltb _ _ l)) s.1)),
  )

  reads : Reads c (outcome_number o) → words_read c o ≡ c.len
  unfolding words_read
  reads r = rw (r.0, number_done o r.1)

  reads_not : (Reads c (outcome_number o) → ⊥) → words_read c o ≡ 0
  unfolding words_read
  reads_not not =
      let is = is_opcode c.opcode ReadMem in
      rw (not_held (is && is_done o) (λ e. not (opcode_is c.opcode ReadMem (both_left is (is_done o) e), done_number o (both_right is (is_done o) e))))

module _ (d : Device) (q : ℕ) (c : Command) (p : Performed) (shaped : Shaped d) (four : q < 4)
    (range : emits c p.outcome ≡ true → c.rdst < 64)
    (sets : SetsFrame c (outcome_number p.outcome) → p.frame ≡ Some (held_by c)) (kept : (SetsFrame c (outcome_number p.outcome) → ⊥) → p.frame ≡ (ring_of d q).frame)
    (no_stop : outcome_number p.outcome ≤ 10 → p.site ≡ no_site) where
  abbrev told : Values
  told = report_values (report_of d q c p)

  one_more : emits c p.outcome ≡ true → told.fence ≡ plus_one (slot_of d c.rdst)
  unfolding report_of
  one_more e = rw e

  holds : emits c p.outcome ≡ true → slot_of (device_after d q c p) c.rdst ≡ told.fence
  unfolding report_of
  holds e = after-emitted d q c p shaped (range e) e ∙ rw e

  silent : (Signals c (outcome_number p.outcome) → ⊥) → emits c p.outcome ≡ false
  silent not = not_held (emits c p.outcome) (λ e. not ((signals c p.outcome).0 e))

  no_fence : emits c p.outcome ≡ false → told.fence ≡ 0
  unfolding report_of
  no_fence e = rw e

  no_signal : emits c p.outcome ≡ false → (n : ℕ) → slot_of (device_after d q c p) n ≡ slot_of d n
  unfolding slot_of
  no_signal e n = rw (after_no_emit d q c p e)

  moved : ring_of (device_after d q c p) q ≡ ring_after (ring_of d q) c p.frame
  moved = served-ring d q c p (omega (arith, shaped.rings))

  reported : Reported d q c told (device_after d q c p)
  unfolding ring_after values_of report_of
  reported = record {
    fence = λ s. one_more ((signals c p.outcome).1 s);
    signalled = λ s. holds ((signals c p.outcome).1 s);
    no_fence = λ not. no_fence (silent not);
    no_signal = λ not. no_signal (silent not);
    emitted = rw (emitted_told (emits c p.outcome) (plus_one (slot_of d c.rdst))) (signals c p.outcome);
    other_slots = after_other_slot d q c p;
    words = reads c p.outcome;
    no_words = reads_not c p.outcome;
    irq = interrupts_when c p.outcome;
    no_stop = no_stop;
    cursor = ap (λ r. r.cursor) moved;
    window = ap (λ r. r.window) moved;
    frame-set = λ s. ap (λ r. r.frame) moved ∙ sets s;
    frame = λ not. ap (λ r. r.frame) moved ∙ kept not;
    other_rings = other_ring d q c p;
    marker = after-marker d q c p;
    limit = after-limit d q c p;
    edition = after-edition d q c p;
    counts = after-counts-one d q c p shaped four;
  }

-- the values of a served turn's report
reports : (d : Device) (call : Call) (report : Report) → Shaped d → SlotsFit d → WasServed d call report
    → Serving d call (values_of (Served report))
unfolding served_of finished pick_of values_of
reports d call report shaped fit was =
    let q = report.ring in
    let c = head_in d call q in
    let p = (work_in d call q).performed in
    let picked = found (λ r. ready_at d r (ring_in call r)) 4 d.marker q (call_steady d call was.sound).marker was.pick in
    record {
      ring = picked.0;
      ready = picked.1;
      reported =
          rw (left_by, was.after)
          (subst (λ (r : Report). Reported d q c (values_of (Served r)) (device_after d q c p)) was.told
          (reported d q c p shaped picked.0 (emits_in_range _ _ _ _ _ _ _ _)
          (frame-set _ _ _ _ _ _ _ _) (frame-kept _ _ _ _ _ _ _ _) (performed-no_stop _ _ _ _ _ _ _ _)));
      shaped = rw (left_by, was.after) (after-shaped d q c p shaped);
      slots = rw (left_by, was.after) (after-fits d q c p fit);
    }

pub turn-reports : TurnReports
unfolding TurnReports
turn-reports d shaped fit call number =
    let s = served_as d call number in
    rw s.values (reports d call s.report shaped fit s.was)
