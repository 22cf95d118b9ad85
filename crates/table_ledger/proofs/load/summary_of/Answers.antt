use Rattle.table_ledger.proofs.LoadLemmas.{all_days}
use Rattle.table_ledger.proofs.load.summary_of.Goals as goal

pub of-requires-clause-days : goal.of-requires-clause-days
of-requires-clause-days c =
    all_days c.args.closes.now c.in_ok-closes.closes.items c.in_ok-closes.ensures.have
