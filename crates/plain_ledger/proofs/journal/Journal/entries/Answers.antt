use Rattle.plain_ledger.proofs.journal.Journal.entries.Goals as goal

pub returns : goal.returns
returns c = rw c.deref.ensures.value at c.make_entries.ensures
