-- Laws of text at the front of bytes.
-- Assumes nothing.
use mathlib.Core.Path.{◌≡◌, sym, ◌∙◌, ap}
use mathlib.Core.List.{List, ◌++◌, append_assoc}
use Prim.Native.Nat.{ℕ, ◌+◌, ◌≤◌}
use native.Mathlib.Omega.{arith}
use lib.ListN.{length, take, drop, length-take, take-append-drop}
use lib.Seq.{take_at, drop-drop, length-take-le}
use Rattle.std.proofs.lemmas.Slice.{take-put_mid, drop-put_mid}
use borrow.Rule.Slice.PartMut.{put_mid}
use Rattle.std.proofs.lemmas.List.Edits.{sets-eq}
use Rattle.spelling.specs.Put.{Put, Spelled}
use Rattle.replay.specs.Text.{Appended}

-- bytes put after the first n, over as many
pub put-appended : (bytes before put : List ℕ) (n k r : ℕ) → put ≡ bytes → k ≡ length bytes → r ≡ n + length bytes → r ≤ length before
    → Appended bytes n before (put_mid n k before put) r
put-appended bytes before put n k r same count end room =
    record {
      front = take-put_mid n k before put r (omega (arith, ap length same)) (omega arith) ∙ ap (λ (l : List ℕ). take n before ++ l) same;
      rest = drop-put_mid n k before put r (omega arith) (omega arith) (omega (arith, ap length same));
      counted = end;
    }

-- the text that appending leaves
pub whole : (bytes : List ℕ) (n : ℕ) (before after : List ℕ) (r : ℕ) → Appended bytes n before after r
    → after ≡ take n before ++ bytes ++ drop (n + length bytes) before
whole bytes n before after r a = sym (take-append-drop r after) ∙ rw (a.front, a.rest, a.counted)

-- bytes put after the first n are put over others from there on
pub appended-put : (bytes : List ℕ) (n : ℕ) (before after : List ℕ) (r : ℕ) → n + length bytes ≤ length before → Appended bytes n before after r
    → Put before n bytes after r
appended-put bytes n before after r room a = record { stored = whole bytes n before after r a ∙ sym (sets-eq bytes before n room); place = a.counted }

-- what agrees from a place on agrees from a later one on
later : (n more : ℕ) (a b : List ℕ) → drop n a ≡ drop n b → drop (n + more) a ≡ drop (n + more) b
later n more a b e = sym (drop-drop more n a) ∙ ap (drop more) e ∙ drop-drop more n b

-- a spelled line is the front that its length gives
pub spelled-front : {line before after : List ℕ} {k : ℕ} → Spelled line before after k → take k after ≡ line
spelled-front {line} s = rw s.bytes (take_at line _ _ (sym s.counted))

-- a front has no more than the whole
pub front-short : (k : ℕ) (all : List ℕ) → length (take k all) ≤ length all
front-short k all = simp length-take (omega arith)

-- so to append that front is to append the line
pub line_appended : {line before spelled text lent : List ℕ} {k n r : ℕ} → Spelled line before spelled k → Appended (take k spelled) n text lent r → Appended line n text lent r
line_appended s a = rw (spelled-front s) at a

-- a front, with the bytes past it as before, is a text spelled there
pub whole-spelled : {whole before after : List ℕ} {r : ℕ} → take r after ≡ whole → drop r after ≡ drop r before → r ≤ length after → Spelled whole before after r
whole-spelled {whole} {before} {after} {r} front rest room =
    let all : length whole ≡ r = sym (ap length front) ∙ length-take-le r after room in
    record {
      bytes = rw all (sym (take-append-drop r after) ∙ ap (λ (l : List ℕ). l ++ drop r after) front ∙ ap (λ (l : List ℕ). whole ++ l) rest);
      counted = sym all;
      room = room;
    }

-- the last line makes the text whole
pub last_appended : {whole line text lent : List ℕ} {n r : ℕ} → whole ≡ take n text ++ line → Appended line n text lent r → take r lent ≡ whole
last_appended e a = a.front ∙ sym e

-- appending keeps the bytes past it
pub next-rest : {line text lent : List ℕ} {n r : ℕ} (before : List ℕ) → Appended line n text lent r → drop n text ≡ drop n before → drop r lent ≡ drop r before
next-rest {line} {text} {lent} {n} {r} before a e = a.rest ∙ rw a.counted (later n (length line) text before e)

-- and a line before it leaves the rest
pub next_appended : {whole line text lent : List ℕ} {n r : ℕ} (rest : List ℕ) → whole ≡ take n text ++ (line ++ rest) → Appended line n text lent r → whole ≡ take r lent ++ rest
next_appended {line = line} {text = text} {n = n} rest e a = e ∙ sym (append_assoc (take n text) line rest) ∙ ap (λ (l : List ℕ). l ++ rest) (sym a.front)

-- a line that stands alone is the text
pub alone : {line text lent : List ℕ} {n r : ℕ} → n ≡ 0 → Appended line n text lent r → r ≤ n + 64 → 262144 ≤ length lent → Spelled line text lent r
alone {n = n} none a short room = whole-spelled (a.front ∙ rw none) a.rest (omega arith)
