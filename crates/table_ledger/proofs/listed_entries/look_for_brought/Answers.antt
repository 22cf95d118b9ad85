use Rattle.std.proofs.Common.{◌∙◌, ap, w32}
use Rattle.book_model.proofs.Std.{to_z-of_z}
use Rattle.book_core.specs.OfficeRulings.{ruled_in}
use Rattle.table_ledger.specs.EntryReads.{brought_by}
use Rattle.table_ledger.proofs.LooksRefused.{look_given_up, look_refused}
use Rattle.table_ledger.proofs.TryLemmas.{looks_known, saw_found, saw_none}
use Rattle.table_ledger.proofs.listed_entries.look_for_brought.Goals as goal

-- by the text that was found, if one was
pub returns-clause-looks : goal.returns-clause-looks
returns-clause-looks g c =
    let day = to_z-of_z w32 c.args.day c.ranges.day in
    let shown = rw day at c.in_ok-found.ensures.shown in
    looks_known (saw_found (rw day at c.in_ok-text.ensures.looks)) (λ tables known.
    λ rows are.
    shown
    ∙ ap (brought_by c.args.day (ruled_in c.args.summary.now.rulings).tariffs) (known rows are))

-- ---- what is not read leaves all as it was

pub returns-in_err-text-clause-looks : goal.returns-in_err-text-clause-looks
returns-in_err-text-clause-looks g c =
    look_refused _ c.from_residual.ensures.0 saw_none c.in_err-text.ensures.looks

pub returns-in_err-found-clause-looks : goal.returns-in_err-found-clause-looks
returns-in_err-found-clause-looks g c =
    look_given_up _ c.from_residual-in_err-found.ensures.0 (saw_found c.in_ok-text.ensures.looks)
