use Rattle.std.proofs.Common.{Some}
use Rattle.book_model.specs.Journal.{Ruled as RuledAt, with_entry}
use Rattle.plain_ledger.specs.Journals.{entries_in}
use Rattle.plain_ledger.proofs.ledger.PlainLedger.noted.Goals as goal

pub returns : goal.returns
returns g c = λ i.
    with_entry (Some (c.in_ok-copy.ensures i)) (RuledAt (c.in_ok-standing.ensures i))
    (entries_in c.args.self.now.journal)
