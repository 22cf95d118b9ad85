use Rattle.table_ledger.specs.Posting.{CanClose}
use Rattle.std.proofs.Common.{Ok, refl}
use Rattle.book_model.specs.Journal.{CloseOf}
use Rattle.book_model.specs.Words.{note_given}
use Rattle.table_model.specs.Words.{closed_at}
use Rattle.table_ledger.proofs.EnteredRulings.{does_ruling}
use Rattle.table_ledger.proofs.StepLemmas.{does_then}
use Rattle.table_model.specs.PostedLaws.{PostsTouched}
use Rattle.tree_tables.specs.Days.{NoneNext}
use Rattle.table_ledger.proofs.close.write_close.Goals as goal

-- the day, the marks of what it charged, the rows of the next period, and the entry
pub returns : goal.returns
returns g c =
    let close = c.args.close.now in
    let last = c.args.last in
    does_ruling {When = CanClose close.period last} {change = closed_at close.period close.through}
    (note_given c.args.note.now) {place = CloseOf close.period} c.enter.result
    (does_then {When = CanClose close.period last} (Ok tt) c.in_ok-put_close.ensures.does
    (does_then {When = λ tables. NoneNext close.period tables × PostsTouched close.period last tables}
    (Ok tt) c.in_ok-post_charged.ensures c.in_ok-move_days.ensures.does
    (λ tables can. (can.1, can.0)))
    (λ tables can. (tt, (can.none_next, can.touched))))
    refl c.enter.ensures
