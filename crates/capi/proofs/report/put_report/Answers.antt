use Prim.Native.Nat.{ℕ, ◌*◌}
use mathlib.Core.Path.{◌≡◌}
use mathlib.Core.List.{List}
use lib.ListN.{length, get_or}
use native.Mathlib.Omega.{arith}
use borrow.Author.Rules.{rules}
use Rattle.device.specs.declared.turn.Answer.{Answer}
use Rattle.device.specs.Answer.{answer_number}
use Rattle.capi.specs.Report.{report_words, report_bytes, report_length}
use Rattle.capi.proofs.WordBytes.{words-whole}
use Rattle.capi.proofs.report.put_report.Goals as goal

first_word : (answer : Answer) (words : List ℕ) → words ≡ report_words answer → get_or words 0 0 ≡ answer_number answer
unfolding report_words
first_word answer words e = rw e

pub returns : goal.returns
unfolding report_bytes
returns c =
    let words = c.report_words-words in
    let report : length c.args.report.now ≡ report_length = search rules in
    let size : 4 * length words.result ≡ report_length = search rules in
    (rw (← words.ensures) (words-whole _ words.result (omega (arith, size, report)) c.put_words.ensures), first_word _ _ words.ensures)
