use Rattle.table_ledger.specs.LedgerState.{ledger_state}
use Rattle.table_ledger.proofs.OneCall.{call_reopen, call_settled}
use Rattle.table_ledger.proofs.ledger.TableLedgerLedger.period_of_line.Goals as goal

pub returns-then-self : goal.returns-then-self
returns-then-self g c =
    call_reopen (ledger_state g.N.Naming.name_of c.args.self.now) c.if-self.true

pub returns : goal.returns
returns g c =
    call_settled g.S.Store c.args.self.now.tables.store c.if-self.false g.met.S.Store.settled
    c.finish.ensures.settles (c.try_period_of_line-tried.ensures _)
