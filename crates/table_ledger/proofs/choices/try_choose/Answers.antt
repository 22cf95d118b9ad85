use Rattle.std.proofs.Common.{◌∙◌, ◌==◌, ◌&&◌, ap, nat_le, not, refl, sym}
use Rattle.book_model.specs.Words.{if_done, most_choices, note_given, record_named}
use Rattle.book_core.proofs.RulingLemmas.{meant_by}
use Rattle.table_ledger.proofs.AcceptTries.{saw_as}
use Rattle.table_ledger.proofs.Answering.{ruled_other}
use Rattle.table_ledger.proofs.ChoiceTries.{choice_plain, choose_none, choose_staged, choose_told}
use Rattle.table_ledger.proofs.ChoiceTries.{saw_asked}
use Rattle.table_ledger.proofs.Words.{opens}
use Rattle.table_ledger.proofs.CommitLemmas.{committed, uncommitted}
use Rattle.table_ledger.proofs.TryLemmas.{saw_found, saw_none, saw_then, try_refused}
use Rattle.table_ledger.proofs.choices.try_choose.Goals as goal

-- there is none
pub returns-in_default : goal.returns-in_default
returns-in_default g c = record {
  tries =
      λ naming.
      let noted = note_given c.args.note.now in
      let name = c.args.name in
      ruled_other _ refl (opens refl refl) (λ is. cc)
      (saw_as name c.in_default.is c.in_ok-stored.ensures.looks)
      (λ book at known. choose_none naming c.args.summary.now name _ book at known)
      (λ book already.
      ap (if_done (meant_by noted (record_named naming book.held name))) already);
}

-- the answer is not Done
pub returns-then-not-is_done : goal.returns-then-not-is_done
returns-then-not-is_done g c = record {
  tries =
      λ naming.
      let noted = note_given c.args.note.now in
      let summary = c.args.summary.now in
      let name = c.args.name in
      let stored = c.in-Some.stored in
      ruled_other _ c.choice_answer-answer.ensures.answer
      (choice_plain (c.in_ok-sharing.sharing == 1 && not c.in_ok-ever.ever) stored.charged
      (nat_le most_choices summary.choices))
      (c.is_done.ensures.other c.if-not-is_done.true)
      (saw_asked name stored c.in-Some.is c.deref.ensures.value c.deref-2.ensures.value
      c.in_ok-stored.ensures.looks c.in_ok-sharing.ensures.looks c.in_ok-ever.ensures.looks)
      (λ book at known. choose_told naming summary name _ book at stored known.0.0 known.0.1
      known.1)
      (λ book already.
      ap (if_done (meant_by noted (record_named naming book.held name))) already);
}

-- the commit is refused
pub returns-in_err-commit_written : goal.returns-in_err-commit_written
returns-in_err-commit_written g c = record {
  tries =
      λ naming.
      let noted = note_given c.args.note.now in
      let tests = sym c.choice_answer-answer.ensures.answer
      ∙ c.is_done.ensures.done c.if-not-is_done.false in
      uncommitted g.S.Store _ _ c.from_residual-in_err-commit_written.ensures.0
      (choose_staged naming noted c.args.summary.now c.args.name c.in-Some.stored
      c.open_number.result c.last_close.result c.in-Some.is c.deref.ensures.value c.deref-2.ensures.value
      c.in_ok-stored.ensures.looks c.in_ok-sharing.ensures.looks c.in_ok-ever.ensures.looks
      c.in_ok-effects.ensures.looks c.write_choice-written.ensures tests
      c.open_number.ensures.number c.last_close.ensures)
      c.in_err-commit_written.ensures (λ book same. same);
}

-- the record is chosen
pub returns : goal.returns
returns g c = record {
  tries =
      λ naming.
      let noted = note_given c.args.note.now in
      let tests = sym c.choice_answer-answer.ensures.answer
      ∙ c.is_done.ensures.done c.if-not-is_done.false in
      committed g.S.Store
      (choose_staged naming noted c.args.summary.now c.args.name c.in-Some.stored
      c.open_number.result c.last_close.result c.in-Some.is c.deref.ensures.value c.deref-2.ensures.value
      c.in_ok-stored.ensures.looks c.in_ok-sharing.ensures.looks c.in_ok-ever.ensures.looks
      c.in_ok-effects.ensures.looks c.write_choice-written.ensures tests
      c.open_number.ensures.number c.last_close.ensures)
      c.in_ok-commit_written.ensures
      (record {
        rulings = refl;
        choices = refl;
        replaced = refl;
        credits = refl;
        held = refl;
        total = refl;
      });
}

-- ---- what is not read leaves all as it was

pub returns-in_err-stored : goal.returns-in_err-stored
returns-in_err-stored g c = record {
  tries = λ naming.
      try_refused _ c.from_residual.ensures.0 saw_none c.in_err-stored.ensures.looks;
}

pub returns-in_err-sharing : goal.returns-in_err-sharing
returns-in_err-sharing g c = record {
  tries = λ naming.
      try_refused _ c.from_residual-in_err-sharing.ensures.0
      (saw_found c.in_ok-stored.ensures.looks) c.in_err-sharing.ensures.looks;
}

pub returns-in_err-ever : goal.returns-in_err-ever
returns-in_err-ever g c = record {
  tries = λ naming.
      try_refused _ c.from_residual-in_err-ever.ensures.0
      (saw_then (saw_found c.in_ok-stored.ensures.looks) (saw_found c.in_ok-sharing.ensures.looks))
      c.in_err-ever.ensures.looks;
}

pub returns-in_err-effects : goal.returns-in_err-effects
returns-in_err-effects g c = record {
  tries = λ naming.
      try_refused _ c.from_residual-in_err-effects.ensures.0
      (saw_then (saw_then (saw_found c.in_ok-stored.ensures.looks)
      (saw_found c.in_ok-sharing.ensures.looks)) (saw_found c.in_ok-ever.ensures.looks))
      c.in_err-effects.ensures.looks;
}
