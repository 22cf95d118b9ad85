use Rattle.std.proofs.Common.{◌≢◌, ◌∙◌, Ok, ap, false}
use Rattle.book_model.specs.Words.{if_done, note_given, terms_in}
use Rattle.book_core.proofs.OpenAnswers.{replaced_open}
use Rattle.book_core.proofs.RulingLemmas.{replaced_by}
use Rattle.book_core.specs.Words.{ruled_in}
use Rattle.table_ledger.proofs.Answering.{ruled_other}
use Rattle.table_ledger.proofs.ReplaceTries.{no_replacement, replace_other}
use Rattle.table_ledger.proofs.TryLemmas.{saw_none}
use Rattle.table_ledger.proofs.Words.{Done}
use Rattle.table_ledger.proofs.replacing.try_replace.Goals as goal

-- the text is no tariff
pub returns-in-Err : goal.returns-in-Err
returns-in-Err g c = record {
  tries = λ naming.
      no_replacement (note_given c.args.note.now) c.args.text.now c.in-Err.fault
      c.in-Err.ensures.refused;
}

-- the answer is not Done
pub returns-then-not-is_done : goal.returns-then-not-is_done
returns-then-not-is_done g c = record {
  tries =
      λ naming.
      let noted = note_given c.args.note.now in
      let summary = c.args.summary.now in
      let text = c.args.text.now in
      let terms = c.in-Ok.tariff in
      let said = c.in-Ok.ensures.said in
      let is = c.replacing_answer-answer.ensures in
      let other : c.replacing_answer-answer.result ≢ Ok Done =
      c.is_done.ensures.other c.if-not-is_done.true in
      ruled_other _ is (replaced_open (ruled_in summary.rulings) false text terms) other saw_none
      (λ book at known.
      replace_other noted summary text terms said naming _ book at (λ done. other (is ∙ done)))
      (λ book already. ap (if_done (replaced_by noted text (terms_in text))) already);
}
