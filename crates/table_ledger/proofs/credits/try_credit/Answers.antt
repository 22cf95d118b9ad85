use Rattle.std.proofs.Common.{◌∙◌, Some, ap, nat_le, refl, sym}
use Rattle.book_model.specs.Words.{CreditGiven, RulingGiven, if_done, most_credits, note_given}
use Rattle.book_core.specs.Words.{ruled_in}
use Rattle.book_core.proofs.OpenAnswers.{credit_open}
use Rattle.table_ledger.proofs.Answering.{ruled_other}
use Rattle.table_ledger.proofs.CommitLemmas.{committed, uncommitted}
use Rattle.table_ledger.proofs.CreditTries.{credit_is_event, credit_told}
use Rattle.table_ledger.proofs.StageLemmas.{stage_steps}
use Rattle.table_ledger.proofs.TryLemmas.{saw_found, saw_none, try_refused}
use Rattle.table_ledger.proofs.credits.try_credit.Goals as goal

-- the answer is not Done
pub returns-then-not-is_done : goal.returns-then-not-is_done
returns-then-not-is_done g c = record {
  tries =
      λ naming.
      let summary = c.args.summary.now in
      let credit = c.args.credit.now in
      ruled_other _ c.answer_to-answer.ensures.answer
      (credit_open (ruled_in summary.rulings) c.in_ok-given.given
      (nat_le most_credits summary.credits) credit.period credit.centre)
      (c.is_done.ensures.other c.if-not-is_done.true)
      (saw_found c.in_ok-given.ensures.looks)
      (λ book at known. credit_told summary credit book at known)
      (λ book already.
      ap (if_done (Some (RulingGiven (note_given c.args.note.now)
      (CreditGiven credit.centre credit.amount credit.reason.now)))) already);
}

-- the commit is refused
pub returns-in_err-commit_written : goal.returns-in_err-commit_written
returns-in_err-commit_written g c = record {
  tries =
      λ naming.
      let done = sym c.answer_to-answer.ensures.answer
      ∙ c.is_done.ensures.done c.if-not-is_done.false in
      uncommitted g.S.Store _ _ c.from_residual-in_err-commit_written.ensures.0
      (stage_steps _ (saw_found c.in_ok-given.ensures.looks) c.write_credit-written.ensures
      (λ book at known. credit_is_event c.args.summary.now c.args.credit.now book at known
      (note_given c.args.note.now) c.requires done))
      c.in_err-commit_written.ensures (λ book same. same);
}

-- the credit is given
pub returns : goal.returns
returns g c = record {
  tries =
      λ naming.
      let done = sym c.answer_to-answer.ensures.answer
      ∙ c.is_done.ensures.done c.if-not-is_done.false in
      committed g.S.Store
      (stage_steps _ (saw_found c.in_ok-given.ensures.looks) c.write_credit-written.ensures
      (λ book at known. credit_is_event c.args.summary.now c.args.credit.now book at known
      (note_given c.args.note.now) c.requires done))
      c.in_ok-commit_written.ensures
      (record {
        rulings = refl;
        choices = refl;
        replaced = refl;
        credits = refl;
        held = refl;
        total = refl;
      });
}

-- what is not read leaves all as it was
pub returns-in_err-given : goal.returns-in_err-given
returns-in_err-given g c = record {
  tries = λ naming.
      try_refused _ c.from_residual.ensures.0 saw_none c.in_err-given.ensures.looks;
}
