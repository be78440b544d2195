-- Laws of the lines: how many turns are enough, and what each turn adds.
-- Assumes nothing.
use mathlib.Core.Path.{◌≡◌, refl, ap}
use mathlib.Core.List.{List, ◌++◌}
use Prim.Native.Nat.{ℕ, zero, suc, ◌+◌, ◌<◌}
use native.Mathlib.Omega.{arith}
use Rattle.spelling.specs.Line.{idle_line, refused_line}
use Rattle.state.specs.declared.device.Device.{Device}
use Rattle.state.specs.declared.refusal.Refusal.{Refusal}
use Rattle.device.specs.declared.turn.Answer.{Answer}
use Rattle.device.specs.declared.turn.Answer.TheVariants.{Served, Idle, Refused}
use Rattle.device.specs.declared.turn.Report.{Report}
use Rattle.state.specs.Device.{Shaped}
use Rattle.state.specs.Refusal.{refusal_number}
use Rattle.device.specs.Turn.{Call, ring_in, turn_of}
use Rattle.device.specs.Untaken.{untaken_in}
use Rattle.device.proofs.Untaken.{served_takes}
use Rattle.device.proofs.Shapes.{turn-shaped}
use Rattle.replay.specs.Transcript.{served_line, lines_of, next_call, lines_from, all_lines, EnoughTurns}

-- any two numbers above the untaken bytes give the same lines
same_lines : (f g turns : ℕ) (d : Device) (call : Call) → Shaped d → untaken_in (ring_in call) d < f → untaken_in (ring_in call) d < g → lines_from f turns d call ≡ lines_from g turns d call
unfolding lines_from lines_of untaken_in
same_lines zero g turns d call s hf hg = absurd (omega arith)
same_lines (suc f) zero turns d call s hf hg = absurd (omega arith)
same_lines (suc f) (suc g) turns d call s hf hg =
    go (turn_of d call).turned.answer (λ report e.
    let falls = served_takes d call s report e in
    same_lines f g (turns + 1) (turn_of d call).turned.device (next_call call (turn_of d call)) (turn-shaped d call s) (omega (arith, falls)) (omega (arith, falls)))
    refl
  where
    rest : ℕ → List ℕ
    rest n = lines_from n (turns + 1) (turn_of d call).turned.device (next_call call (turn_of d call))

    go : (a : Answer) → ((report : Report) → (turn_of d call).turned.answer ≡ Served report → rest f ≡ rest g) → (turn_of d call).turned.answer ≡ a → lines_of turns a (rest f) ≡ lines_of turns a (rest g)
    go (Served report) more e = rw (more report e)
    go Idle more e = refl
    go (Refused why) more e = refl

pub enough_turns : EnoughTurns
unfolding all_lines
enough_turns most turns d call s h = same_lines most (suc (untaken_in (ring_in call) d)) turns d call s h (omega arith)

module _ (turns : ℕ) (d : Device) (call : Call) (s : Shaped d) where
  pub served-next : (report : Report) → (turn_of d call).turned.answer ≡ Served report
      → all_lines turns d call ≡ served_line (turns + 1) report ++ all_lines (turns + 1) (turn_of d call).turned.device (next_call call (turn_of d call))
  unfolding all_lines lines_from lines_of untaken_in
  served-next report e =
      let falls = served_takes d call s report e in
      rw e (ap (λ (l : List ℕ). served_line (turns + 1) report ++ l) (enough_turns (untaken_in (ring_in call) d) (turns + 1) (turn_of d call).turned.device (next_call call (turn_of d call)) (turn-shaped d call s) (omega (arith, falls))))

  pub idle-ends : (turn_of d call).turned.answer ≡ Idle → all_lines turns d call ≡ idle_line turns
  unfolding all_lines lines_from lines_of
  idle-ends e = rw e

  pub refused-ends : (why : Refusal) → (turn_of d call).turned.answer ≡ Refused why → all_lines turns d call ≡ refused_line (refusal_number why)
  unfolding all_lines lines_from lines_of
  refused-ends why e = rw e
