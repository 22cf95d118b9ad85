use Rattle.std.proofs.Common.{◌≡◌, ◌∙◌, Some, ap, false, refl, subst, sym}
use Rattle.book_model.specs.Words.{IsDay, Terms, has_text, is_after, is_effective, last_close}
use Rattle.book_model.specs.Words.{Rulings, note_given, open_by, replace_outcome}
use Rattle.book_model.proofs.Std.{list_any}
use Rattle.book_model.proofs.TestLemmas.{replace_tests}
use Rattle.book_core.specs.Words.{in_its_place, ruled_in}
use Rattle.tree_rows.proofs.Calls.{kept_same}
use Rattle.table_ledger.specs.Replacing.{text_begun}
use Rattle.table_ledger.proofs.Answering.{makes_refused}
use Rattle.table_ledger.proofs.CommitLemmas.{committed, uncommitted}
use Rattle.table_ledger.proofs.Remembered.{remembers_same}
use Rattle.table_ledger.proofs.ReplaceTries.{replace_full, replace_is_event, replace_most}
use Rattle.table_ledger.proofs.StageLemmas.{stage_steps}
use Rattle.table_ledger.proofs.SurvivalLemmas.{survives_so}
use Rattle.table_ledger.proofs.TryLemmas.{saw_found, saw_none, try_answered, try_refused, untried}
use Rattle.table_ledger.proofs.Words.{Full, Ruled, kept_last}
use Rattle.table_ledger.proofs.replacing.put_in_place.Goals as goal

-- a tariff's first day is one, whichever way the tariff is seen
dated : {seen terms : Terms} → seen ≡ terms → IsDay seen.effective → IsDay terms.effective
dated is day = subst (λ (terms : Terms). IsDay terms.effective) is day

-- no more can be replaced
pub returns-then-has_most : goal.returns-then-has_most
returns-then-has_most g c = record {
  tries =
      λ naming.
      let noted = note_given c.args.note.now in
      let text = c.args.text.now in
      try_answered _ saw_none (record { stored = refl; served = refl })
      (λ book at known.
      makes_refused (λ (ruled : Ruled). ruled) (replace_outcome noted text book) Full
      (replace_most noted c.args.summary.now text c.args.tariff c.requires.said naming _ book at
      c.requires.done (sym c.has_most.ensures.full ∙ c.if-has_most.true)));
}

-- the books cannot hold what the records cost
pub returns-in_default : goal.returns-in_default
returns-in_default g c = record {
  tries =
      λ naming.
      let noted = note_given c.args.note.now in
      let text = c.args.text.now in
      try_answered _ (saw_found (rw c.in_default.is at c.in_ok-amount.ensures.looks))
      (record { stored = refl; served = refl })
      (λ book at known.
      makes_refused (λ (ruled : Ruled). ruled) (replace_outcome noted text book) Full
      (replace_full noted c.args.summary.now text c.args.tariff c.requires.said naming _ book at
      c.requires.done c.tariffs.result.now c.tariffs.ensures known));
}

-- the commit is refused
pub returns-in_err-commit_written : goal.returns-in_err-commit_written
returns-in_err-commit_written g c = record {
  tries =
      λ naming.
      let noted = note_given c.args.note.now in
      let day = dated c.tariff.view_is c.tariff.invariant in
      let same = c.in_ok-own.ensures.same in
      let again = c.tariffs-tariffs.ensures
      ∙ ap (λ (rulings : Rulings). rulings.tariffs) same ∙ sym c.tariffs.ensures in
      let begun = ap (text_begun c.args.tariff.effective)
      (sym (c.tariffs-2.ensures ∙ ap (λ (rulings : Rulings). rulings.tariffs) same
      ∙ sym c.tariffs.ensures))
      ∙ c.in_ok-was.ensures ∙ ap Some (sym c.as_str.ensures.value) in
      uncommitted g.S.Store _ _ c.from_residual-in_err-commit_written.ensures.0
      (stage_steps _ (saw_found (rw c.in-Some.is at c.in_ok-amount.ensures.looks))
      (rw again at c.write_replacement-written.ensures)
      (λ book at known. replace_is_event noted c.args.summary.now c.args.text.now c.args.tariff
      c.requires.said naming _ book at c.requires.done c.tariffs.result.now c.tariffs.ensures
      (sym c.has_most.ensures.full ∙ c.if-has_most.false) c.in-Some.amount known c.utf8.text day
      c.open_number.result (c.open_number.ensures.number ∙ ap open_by same)
      _ begun))
      c.in_err-commit_written.ensures (remembers_same same refl refl refl refl refl);
}

-- the tariff is in the place of the other
pub returns : goal.returns
returns g c = record {
  tries =
      λ naming.
      let noted = note_given c.args.note.now in
      let terms = c.args.tariff in
      let day = dated c.tariff.view_is c.tariff.invariant in
      let same = c.in_ok-own.ensures.same in
      let again = c.tariffs-tariffs.ensures
      ∙ ap (λ (rulings : Rulings). rulings.tariffs) same ∙ sym c.tariffs.ensures in
      let begun = ap (text_begun c.args.tariff.effective)
      (sym (c.tariffs-2.ensures ∙ ap (λ (rulings : Rulings). rulings.tariffs) same
      ∙ sym c.tariffs.ensures))
      ∙ c.in_ok-was.ensures ∙ ap Some (sym c.as_str.ensures.value) in
      committed g.S.Store
      (stage_steps _ (saw_found (rw c.in-Some.is at c.in_ok-amount.ensures.looks))
      (rw again at c.write_replacement-written.ensures)
      (λ book at known. replace_is_event noted c.args.summary.now c.args.text.now terms
      c.requires.said naming _ book at c.requires.done c.tariffs.result.now c.tariffs.ensures
      (sym c.has_most.ensures.full ∙ c.if-has_most.false) c.in-Some.amount known c.utf8.text day
      c.open_number.result (c.open_number.ensures.number ∙ ap open_by same)
      _ begun))
      c.in_ok-commit_written.ensures (record {
        rulings = c.put_replacement.ensures.put
            ∙ (λ i. in_its_place (record { text = Some (c.in_ok-own.ensures.own i); terms = terms })
            (same i));
        choices = refl;
        replaced = refl;
        credits = refl;
        held = refl;
        total = refl;
      });
}

-- the tariff that it takes the place of is there
pub put_replacement-requires-clause-there : goal.put_replacement-requires-clause-there
put_replacement-requires-clause-there g c =
    let ruled = ruled_in c.args.summary.now.rulings in
    let terms = c.args.tariff in
    let passes = replace_tests (list_any (has_text c.args.text.now) ruled.tariffs)
    (list_any (is_effective terms.effective) ruled.tariffs)
    (is_after (last_close ruled) terms.effective) false c.requires.done in
    ap (λ (rulings : Rulings). list_any (is_effective terms.effective) rulings.tariffs)
    c.in_ok-own.ensures.same
    ∙ passes.found

-- what the records cost is not known
pub returns-in_err-amount : goal.returns-in_err-amount
returns-in_err-amount g c = record {
  tries = λ naming.
      try_refused _ c.from_residual.ensures.0 saw_none c.in_err-amount.ensures.looks;
}

-- there is no memory for the tariff
pub returns-in_err-own : goal.returns-in_err-own
returns-in_err-own g c = record {
  tries = λ naming.
      let saw = saw_found c.in_ok-amount.ensures.looks in
      untried _ c.from_residual-in_err-own.ensures.0
      (survives_so saw.survives (λ clean trees none. absurd none))
      (λ clean book ready. kept_last (kept_same (saw.seen clean).same))
      (remembers_same c.in_err-own.ensures.same refl refl refl refl refl);
}

-- nor for the text of the other
pub returns-in_err-was : goal.returns-in_err-was
returns-in_err-was g c = record {
  tries = λ naming.
      let saw = saw_found c.in_ok-amount.ensures.looks in
      untried _ c.from_residual-in_err-was.ensures.0
      (survives_so saw.survives (λ clean trees none. absurd none))
      (λ clean book ready. kept_last (kept_same (saw.seen clean).same))
      (remembers_same c.in_ok-own.ensures.same refl refl refl refl refl);
}
