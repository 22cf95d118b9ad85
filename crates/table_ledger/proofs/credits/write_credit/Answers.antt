use Rattle.std.proofs.Common.{refl}
use Rattle.book_model.specs.Journal.{CreditOf}
use Rattle.book_model.specs.Words.{note_given}
use Rattle.table_model.specs.Steps.{put_credit_row}
use Rattle.tree_tables.specs.Stored.{credit_given}
use Rattle.table_ledger.proofs.EnteredRulings.{does_ruling}
use Rattle.table_ledger.proofs.Words.{Always}
use Rattle.table_ledger.proofs.credits.write_credit.Goals as goal

-- the credit, and its entry
pub returns : goal.returns
returns g c =
    does_ruling {When = Always}
    {change = put_credit_row c.args.number (credit_given c.args.credit.now)}
    (note_given c.args.note.now) {place = CreditOf c.args.number} c.enter.result
    c.in_ok-put_credit.ensures.does refl c.enter.ensures
