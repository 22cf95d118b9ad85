use Rattle.std.proofs.Common.{◌∙◌, refl, sym}
use Rattle.book_model.specs.Words.{note_given}
use Rattle.table_ledger.proofs.AdoptTries.{adopt_is_event}
use Rattle.table_ledger.proofs.CommitLemmas.{committed, uncommitted}
use Rattle.table_ledger.proofs.StageLemmas.{stage_steps}
use Rattle.table_ledger.proofs.TryLemmas.{saw_none}
use Rattle.table_ledger.proofs.adoption.try_adopt.Goals as goal

-- the commit is refused
pub returns-in_err-commit_written : goal.returns-in_err-commit_written
returns-in_err-commit_written g c = record {
  tries =
      λ naming.
      let noted = note_given c.args.note.now in
      let done = sym c.adopt_answer-answer.ensures
      ∙ c.is_done.ensures.done c.if-not-is_done.false in
      uncommitted g.S.Store _ _ c.from_residual.ensures.0
      (stage_steps _ saw_none c.write_adoption-written.ensures
      (λ book at known. adopt_is_event noted c.args.summary.now c.args.rule done
      c.open_number-period.result c.last_close.result c.open_number-period.ensures.number
      c.last_close.ensures book at))
      c.in_err-commit_written.ensures (λ book same. same);
}

-- the second rule is in force
pub returns : goal.returns
returns g c = record {
  tries =
      λ naming.
      let noted = note_given c.args.note.now in
      let done = sym c.adopt_answer-answer.ensures
      ∙ c.is_done.ensures.done c.if-not-is_done.false in
      committed g.S.Store
      (stage_steps _ saw_none c.write_adoption-written.ensures
      (λ book at known. adopt_is_event noted c.args.summary.now c.args.rule done
      c.open_number-period.result c.last_close.result c.open_number-period.ensures.number
      c.last_close.ensures book at))
      c.in_ok-commit_written.ensures
      (record {
        rulings = c.adopt.ensures;
        choices = refl;
        replaced = refl;
        credits = refl;
        held = refl;
        total = refl;
      });
}
