use Rattle.book_core.proofs.ledger.Ledger.replace_tariff.Goals as goal

pub returns : goal.returns
returns g c = c.rule.ensures
