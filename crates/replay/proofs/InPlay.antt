-- What holds between two turns of a job.
-- Assumes nothing.
use mathlib.Core.Path.{◌≡◌, refl, sym, ap, ◌∙◌}
use mathlib.Core.List.{List, ◌++◌}
use Prim.Native.Nat.{ℕ, ◌+◌, ◌*◌, ◌≤◌}
use native.Mathlib.Omega.{arith}
use lib.ListN.{length, take, drop}
use Rattle.spelling.specs.Put.{Spelled}
use Rattle.spelling.specs.Line.{idle_line, refused_line}
use Rattle.state.specs.declared.device.Device.{Device}
use Rattle.state.specs.declared.refusal.Refusal.{Refusal}
use Rattle.device.specs.declared.turn.Answer.{Answer}
use Rattle.device.specs.declared.turn.Answer.TheVariants.{Served, Idle, Refused}
use Rattle.device.specs.declared.turn.Report.{Report}
use Rattle.device.specs.declared.turn.Turned.{Turned}
use Rattle.state.specs.Device.{Shaped}
use Rattle.state.specs.Refusal.{refusal_number}
use Rattle.device.specs.Turn.{Call, ring_in, call_of, Shows, turn_of}
use Rattle.device.specs.Untaken.{untaken_in}
use Rattle.device.proofs.Untaken.{served_takes}
use Rattle.device.proofs.Shapes.{turn-shaped}
use Rattle.replay.specs.Text.{Appended}
use Rattle.replay.specs.Transcript.{served_line, all_lines}
use Rattle.replay.proofs.Lines.{served-next, idle-ends, refused-ends}
use Rattle.replay.proofs.TextLaws.{whole-spelled, last_appended, next-rest, next_appended}

-- from a device and a call, after `turns` turns, with n bytes of text written
pub record In-play (d₀ : Device) (call₀ : Call) (memory₀ : ℕ) (text₀ : List ℕ) (d : Device) (call : Call) (lent : List ℕ) (turns n : ℕ) : Type 0 where
  pub memory : length call.memory ≡ memory₀
  pub pipe : length call.pipe ≡ 1020
  pub rest : drop n lent ≡ drop n text₀
  pub shaped : Shaped d
  pub untaken : 16 * turns + untaken_in (ring_in call) d ≤ 61440
  pub written : n ≤ 64 * turns
  pub lines : all_lines 0 d₀ call₀ ≡ take n lent ++ all_lines turns d call

-- before the first turn
pub starts : (d : Device) (call : Call) (lent : List ℕ) (n : ℕ) → length call.pipe ≡ 1020 → Shaped d → untaken_in (ring_in call) d ≤ 61440 → n ≡ 0
    → In-play d call (length call.memory) lent d call lent 0 n
starts d call lent n pipe shaped few none =
    record {
      memory = refl;
      pipe = pipe;
      rest = refl;
      shaped = shaped;
      untaken = omega arith;
      written = omega arith;
      lines = rw none;
    }

module _ {d₀ d : Device} {call₀ call : Call} {memory₀ turns n : ℕ} {text₀ text : List ℕ}
    (p : In-play d₀ call₀ memory₀ text₀ d call text turns n) where
  -- there is room for one more line
  pub line_fits : n + 64 ≤ 262144
  line_fits = omega (arith, p.untaken, p.written)

  -- the last line ends the text
  ended : {line lent : List ℕ} {k : ℕ} → all_lines turns d call ≡ line → Appended line n text lent k → k ≤ n + 64 → 262144 ≤ length lent
      → Spelled (all_lines 0 d₀ call₀) text₀ lent k
  ended last a short room =
      whole-spelled (last_appended (rw last at p.lines) a) (next-rest text₀ a p.rest) (omega (arith, line_fits))

  module _ {r : Turned} {memory pipe : List ℕ} (shows : Shows r memory pipe (turn_of d call)) where
    same_answer : {a : Answer} → r.answer ≡ a → (turn_of d call).turned.answer ≡ a
    same_answer e = sym (ap (λ x. x.answer) shows.answer) ∙ e

    pub ends-idle : r.answer ≡ Idle → {lent : List ℕ} {k : ℕ} → Appended (idle_line turns) n text lent k → k ≤ n + 64
        → 262144 ≤ length lent → Spelled (all_lines 0 d₀ call₀) text₀ lent k
    ends-idle e = ended (idle-ends turns d call p.shaped (same_answer e))

    pub ends-refused : (why : Refusal) → r.answer ≡ Refused why → {lent : List ℕ} {k : ℕ} → Appended (refused_line (refusal_number why)) n text lent k → k ≤ n + 64
        → 262144 ≤ length lent → Spelled (all_lines 0 d₀ call₀) text₀ lent k
    ends-refused why e = ended (refused-ends turns d call p.shaped why (same_answer e))

    module _ (report : Report) (e : r.answer ≡ Served report) where
      -- a served turn leaves at least 16 bytes fewer
      pub falls : untaken_in (ring_in call) r.device + 16 ≤ untaken_in (ring_in call) d
      falls = rw shows.answer (served_takes d call p.shaped report (same_answer e))

      pub goes_on : {lent : List ℕ} {k : ℕ} → Appended (served_line (turns + 1) report) n text lent k → k ≤ n + 64
          → length memory ≡ length call.memory → length pipe ≡ length call.pipe
          → In-play d₀ call₀ memory₀ text₀ r.device (call_of memory call.ring0 call.ring1 call.ring2 call.ring3 call.pack pipe) lent (turns + 1) k
      unfolding untaken_in
      goes_on a short same_memory same-pipe =
          record {
            memory = same_memory ∙ p.memory;
            pipe = same-pipe ∙ p.pipe;
            rest = next-rest text₀ a p.rest;
            shaped = rw shows.answer (turn-shaped d call p.shaped);
            untaken = omega (arith, falls, p.untaken);
            written = omega (arith, p.written);
            lines = next_appended _ (p.lines ∙ ap (λ (l : List ℕ). take n text ++ l) next) a;
          }
        where
          next : all_lines turns d call ≡ served_line (turns + 1) report ++ all_lines (turns + 1) r.device (call_of memory call.ring0 call.ring1 call.ring2 call.ring3 call.pack pipe)
          next = rw (shows.answer, shows.memory, shows.pipe) (served-next turns d call p.shaped report (same_answer e))
