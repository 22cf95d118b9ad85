use Rattle.book_core.proofs.ledger.Ledger.withhold.Goals as goal

pub returns : goal.returns
returns g c = c.rule.ensures
