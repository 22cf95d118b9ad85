use Rattle.tree_tables.specs.States.{state}
use Rattle.table_ledger.specs.Posting.{RestIsPosted}
use Rattle.table_ledger.proofs.PostedDetails.{PostedSo}
use Rattle.table_ledger.proofs.Walks.{WalksTo}
use Rattle.table_ledger.proofs.close.post_details.Given as goal

-- the records up to the last detail are posted
abbrev pub invariant-details : goal.invariant-details
invariant-details g l =
    WalksTo (RestIsPosted l.fn.last l.fn.close.through)
    (PostedSo l.fn.last l.fn.close.through l.passed) (state g.S.Store l.fn.tables.store)
    (state g.S.Store l.tables.store)
