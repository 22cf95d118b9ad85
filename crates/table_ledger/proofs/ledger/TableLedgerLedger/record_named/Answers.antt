use Rattle.table_ledger.specs.LedgerState.{ledger_state}
use Rattle.table_ledger.proofs.OneCall.{call_reopen, call_settled}
use Rattle.table_ledger.proofs.ledger.TableLedgerLedger.record_named.Goals as goal

pub returns-then-self-clause-bytes : goal.returns-then-self-clause-bytes
returns-then-self-clause-bytes g c =
    call_reopen (ledger_state g.N.Naming.name_of c.args.self.now) c.if-self.true

pub returns-clause-bytes : goal.returns-clause-bytes
returns-clause-bytes g c =
    call_settled g.S.Store c.args.self.now.tables.store c.if-self.false g.met.S.Store.settled
    c.finish.ensures.settles (c.try_record-tried.ensures.tries _)
