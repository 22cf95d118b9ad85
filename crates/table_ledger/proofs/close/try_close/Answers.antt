use Rattle.std.proofs.Common.{◌∙◌, Some, refl, sym, ap}
use Rattle.book_model.specs.Words.{PeriodClosed, close_answer, if_done, note_given, with_close}
use Rattle.book_core.specs.OfficeRulings.{ruled_in}
use Rattle.book_core.proofs.OpenAnswers.{close_open}
use Rattle.table_ledger.proofs.Answering.{ruled_other}
use Rattle.table_ledger.proofs.CloseTries.{close_is_event}
use Rattle.table_ledger.proofs.CommitLemmas.{committed, uncommitted}
use Rattle.table_ledger.proofs.Remembered.{remembers_same}
use Rattle.table_ledger.proofs.StageLemmas.{stage_steps}
use Rattle.table_ledger.proofs.TryLemmas.{saw_none}
use Rattle.book_model.proofs.DayLemmas.{day_kept}
use Rattle.table_ledger.proofs.close.try_close.Goals as goal

pub returns-then-not-is_done : goal.returns-then-not-is_done
returns-then-not-is_done g c = record {
  tries =
      λ naming.
      let close = c.args.close.now in
      ruled_other _ (rw (day_kept close.through c.requires.day) at c.close_answer-answer.ensures)
      (close_open (ruled_in c.args.summary.now.rulings) close.period close.through)
      (c.is_done.ensures.other c.if-not-is_done.true) saw_none
      (λ book at known.
      ap (λ rulings. close_answer rulings close.period close.through) (sym at.remembers.rulings))
      (λ book already.
      ap (if_done (Some (PeriodClosed (note_given c.args.note.now) close.through))) already);
}

pub returns-in_err-commit_written : goal.returns-in_err-commit_written
returns-in_err-commit_written g c = record {
  tries =
      λ naming.
      let close = c.args.close.now in
      let is = rw (day_kept close.through c.requires.day) at c.close_answer-answer.ensures in
      let done = sym is ∙ c.is_done.ensures.done c.if-not-is_done.false in
      uncommitted g.S.Store _ _ c.from_residual-in_err-commit_written.ensures.0
      (stage_steps _ saw_none c.write_close-written.ensures
      (λ book at known. close_is_event (note_given c.args.note.now) c.args.summary.now close.period
      close.through c.last_close-last.result c.requires.day done c.last_close-last.ensures book at))
      c.in_err-commit_written.ensures
      (remembers_same c.in_ok-reserve_close.ensures.same refl refl refl refl refl);
}

pub returns : goal.returns
returns g c = record {
  tries =
      λ naming.
      let close = c.args.close.now in
      let day = day_kept close.through c.requires.day in
      let is = rw day at c.close_answer-answer.ensures in
      let done = sym is ∙ c.is_done.ensures.done c.if-not-is_done.false in
      committed g.S.Store
      (stage_steps _ saw_none c.write_close-written.ensures
      (λ book at known. close_is_event (note_given c.args.note.now) c.args.summary.now close.period
      close.through c.last_close-last.result c.requires.day done c.last_close-last.ensures book at))
      c.in_ok-commit_written.ensures (record {
        rulings = c.put_close.ensures
            ∙ (λ i. with_close (day i) (c.in_ok-reserve_close.ensures.same i));
        choices = refl;
        replaced = refl;
        credits = refl;
        held = refl;
        total = refl;
      });
}
