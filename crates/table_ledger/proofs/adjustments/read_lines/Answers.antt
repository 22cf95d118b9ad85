use Rattle.std.proofs.Common.{◌≡◌, ◌∙◌, ◌++◌, [], List, Option, false, refl, slice_index_or, sym}
use Rattle.std.proofs.Common.{ap, Vec, append-nil, Global, take_all}
use Rattle.book_model.proofs.Std.{cons_option}
use Rattle.table_ledger.proofs.Words.{Line, StoredLine, lines_stored}
use Rattle.table_ledger.proofs.LineReadings.{line_more}
use Rattle.table_ledger.proofs.TryLemmas.{looks_known, saw_found, saw_so, saw_then}
use Rattle.table_ledger.proofs.Refusals.{looks_failed_after, looks_failed_next}
use Rattle.table_ledger.proofs.adjustments.read_lines.Goals.{in-Some+in_ok-push, in_default}
use Rattle.table_ledger.proofs.adjustments.read_lines.Goals as goal

pub returns-in_err-line : goal.returns-in_err-line
returns-in_err-line g c = record {
  looks = looks_failed_next _ c.from_residual.ensures.0 c.loop-stored.invariant.saw
      c.in_err-line.ensures.looks;
}

pub returns-in_err-push : goal.returns-in_err-push
returns-in_err-push g c = record {
  looks = looks_failed_after _ c.from_residual-in_err-push.ensures.0
      (saw_then c.loop-stored.invariant.saw (saw_found c.in_ok-line.ensures.looks));
}

pub loop-stored-preserved : goal.loop-stored-preserved
loop-stored-preserved g c =
    let olds = c.loop-stored.lines.items in
    let line = c.in_ok-line.field-0 in
    let items = λ (vec : Vec Line Global). vec.items in
    let behind = λ (one : Option Line). olds ++ cons_option one [] in
    let any : StoredLine = record { name = []; plus = false } in
    let more : c.match-branch-2.lines.items ≡ olds ++ cons_option line [] =
    elim c.match-branch-2.branch [
      | in-Some+in_ok-push w ↦
          ap items w.lines-is ∙ w.in_ok-push.ensures.items ∙ ap behind (sym w.in-Some.is)
      | in_default w ↦
          ap items w.lines-is ∙ sym (append-nil olds) ∙ ap behind (sym w.in_default.is)
    ] in
    record {
      saw = saw_so (saw_then c.loop-stored.invariant.saw
          (saw_found c.in_ok-line.ensures.looks))
          (λ tables known.
          line_more tables.records c.args.found.now c.loop-stored.stored-index
          any (slice_index_or c.args.found.now c.loop-stored.stored-index any) olds
          c.match-branch-2.lines.items line c.loop-stored-test.true
          refl more known.0 known.1);
    }

pub returns : goal.returns
returns g c = record {
  looks = looks_known c.loop-stored.invariant.saw (λ tables known.
      known
      ∙ ap (λ (some : List StoredLine). lines_stored tables.records some)
      (take_all c.loop-stored.stored-index c.args.found.now c.loop-stored-test.false));
}
