use Rattle.book_core.proofs.ledger.Ledger.choose.Goals as goal

pub returns : goal.returns
returns g c = c.rule.ensures
