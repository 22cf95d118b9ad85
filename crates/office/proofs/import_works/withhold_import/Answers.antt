use Rattle.std.proofs.Common.{Err, List, Ok, ℕ, subst}
use Rattle.book_core.specs.Transition.{IsTransition}
use Rattle.book_model.specs.Words.{note_given}
use Rattle.office.specs.Withholdings.{WithholdsSo}
use Rattle.office.proofs.ImportWorkLemmas.{found_names, import_withheld}
use Rattle.office.proofs.import_works.withhold_import.Goals as goal

pub returns-in-Ok : goal.returns-in-Ok
returns-in-Ok g c =
    let seen = g.L.Ledger.seen in
    let mid = seen c.names_came.new.ledger in
    let said = note_given c.args.note.now in
    let told = c.withhold_each.result in
    import_withheld said c.args.entry c.in-Ok.names.items told
    (found_names c.args.entry (Ok c.in-Ok.names) c.in-Ok.ensures.work)
    (subst (λ (names : List (List ℕ)). IsTransition mid (seen c.withhold_each.new.ledger)
    (WithholdsSo said mid.naming names told.counts told.refusal))
    c.deref.ensures.value c.withhold_each.ensures)

pub returns-in-Err : goal.returns-in-Err
returns-in-Err g c = found_names c.args.entry (Err c.in-Err.fault) c.in-Err.ensures.work
