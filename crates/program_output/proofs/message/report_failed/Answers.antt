use Rattle.program_output.proofs.message.report_failed.Goals as goal

pub returns-in-Ledger-clause-said : goal.returns-in-Ledger-clause-said
returns-in-Ledger-clause-said g c = rw c.in-Ledger.is c.ledger_refused.ensures.said
