use Rattle.table_ledger.specs.LedgerState.{ledger_state}
use Rattle.table_ledger.proofs.OneCall.{call_reopen, call_settled}
use Rattle.table_ledger.proofs.ledger.TableLedgerLedger.charges.Goals as goal

pub returns-then-self-clause-rows : goal.returns-then-self-clause-rows
returns-then-self-clause-rows g c =
    call_reopen (ledger_state g.N.Naming.name_of c.args.self.now) c.if-self.true

pub returns-clause-rows : goal.returns-clause-rows
returns-clause-rows g c =
    call_settled g.S.Store c.args.self.now.tables.store c.if-self.false g.met.S.Store.settled
    c.finish.ensures.settles (c.try_charges-tried.ensures.tries _)
