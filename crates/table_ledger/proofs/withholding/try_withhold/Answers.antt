use Rattle.std.proofs.Common.{◌∙◌, ap, nat_le, refl, sym}
use Rattle.book_model.specs.Words.{if_done, most_choices, note_given, record_named}
use Rattle.book_core.proofs.RulingLemmas.{withheld_by as meant_by}
use Rattle.table_ledger.proofs.AcceptTries.{saw_as}
use Rattle.table_ledger.proofs.Answering.{ruled_other}
use Rattle.table_ledger.proofs.WithholdTries.{saw_withheld, withheld_plain, withhold_none}
use Rattle.table_ledger.proofs.WithholdTries.{withhold_staged, withhold_told}
use Rattle.table_ledger.proofs.Words.{opens}
use Rattle.table_ledger.proofs.CommitLemmas.{committed, uncommitted}
use Rattle.table_ledger.proofs.TryLemmas.{saw_found, saw_none, saw_then, try_refused}
use Rattle.table_ledger.proofs.withholding.try_withhold.Goals as goal

-- there is none
pub returns-in_default : goal.returns-in_default
returns-in_default g c = record {
  tries =
      λ naming.
      let noted = note_given c.args.note.now in
      let name = c.args.name in
      ruled_other _ refl (opens refl refl) (λ is. cc)
      (saw_as name c.in_default.is c.in_ok-stored.ensures.looks)
      (λ book at known. withhold_none naming c.args.summary.now name _ book at known)
      (λ book already.
      ap (if_done (meant_by noted (record_named naming book.held name))) already);
}

-- the answer is not Done
pub returns-then-not-is_done : goal.returns-then-not-is_done
returns-then-not-is_done g c = record {
  tries =
      λ naming.
      let noted = note_given c.args.note.now in
      let summary = c.args.summary.now in
      let name = c.args.name in
      let stored = c.in-Some.stored in
      ruled_other _ c.withheld_answer-answer.ensures.answer
      (withheld_plain c.in_ok-withheld.withheld (nat_le most_choices summary.choices))
      (c.is_done.ensures.other c.if-not-is_done.true)
      (saw_withheld name stored c.in-Some.is c.deref.ensures.value c.in_ok-stored.ensures.looks
      c.in_ok-withheld.ensures.looks)
      (λ book at known. withhold_told naming summary name _ book at stored known.0 known.1)
      (λ book already.
      ap (if_done (meant_by noted (record_named naming book.held name))) already);
}

-- the commit is refused
pub returns-in_err-commit_written : goal.returns-in_err-commit_written
returns-in_err-commit_written g c = record {
  tries =
      λ naming.
      let noted = note_given c.args.note.now in
      let tests = sym c.withheld_answer-answer.ensures.answer
      ∙ c.is_done.ensures.done c.if-not-is_done.false in
      uncommitted g.S.Store _ _ c.from_residual-in_err-commit_written.ensures.0
      (withhold_staged naming noted c.args.summary.now c.args.name c.in-Some.stored
      c.open_number.result c.last_close.result c.in-Some.is c.deref.ensures.value c.in_ok-stored.ensures.looks
      c.in_ok-withheld.ensures.looks c.in_ok-withdrawn.ensures.looks c.write_none-written.ensures
      tests c.open_number.ensures.number c.last_close.ensures)
      c.in_err-commit_written.ensures (λ book same. same);
}

-- the work is withheld
pub returns : goal.returns
returns g c = record {
  tries =
      λ naming.
      let noted = note_given c.args.note.now in
      let tests = sym c.withheld_answer-answer.ensures.answer
      ∙ c.is_done.ensures.done c.if-not-is_done.false in
      committed g.S.Store
      (withhold_staged naming noted c.args.summary.now c.args.name c.in-Some.stored
      c.open_number.result c.last_close.result c.in-Some.is c.deref.ensures.value c.in_ok-stored.ensures.looks
      c.in_ok-withheld.ensures.looks c.in_ok-withdrawn.ensures.looks c.write_none-written.ensures
      tests c.open_number.ensures.number c.last_close.ensures)
      c.in_ok-commit_written.ensures
      (record {
        rulings = refl;
        choices = refl;
        replaced = refl;
        credits = refl;
        held = refl;
        total = refl;
      });
}

-- ---- what is not read leaves all as it was

pub returns-in_err-stored : goal.returns-in_err-stored
returns-in_err-stored g c = record {
  tries = λ naming.
      try_refused _ c.from_residual.ensures.0 saw_none c.in_err-stored.ensures.looks;
}

pub returns-in_err-withheld : goal.returns-in_err-withheld
returns-in_err-withheld g c = record {
  tries = λ naming.
      try_refused _ c.from_residual-in_err-withheld.ensures.0
      (saw_found c.in_ok-stored.ensures.looks) c.in_err-withheld.ensures.looks;
}

pub returns-in_err-withdrawn : goal.returns-in_err-withdrawn
returns-in_err-withdrawn g c = record {
  tries = λ naming.
      try_refused _ c.from_residual-in_err-withdrawn.ensures.0
      (saw_then (saw_found c.in_ok-stored.ensures.looks) (saw_found c.in_ok-withheld.ensures.looks))
      c.in_err-withdrawn.ensures.looks;
}
