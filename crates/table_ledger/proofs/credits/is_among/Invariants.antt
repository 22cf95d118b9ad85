use Rattle.tariff_rules.proofs.SearchLemmas.{AreFailed}
use Rattle.tree_tables.specs.Stored.{credit_entry}
use Rattle.table_ledger.specs.CreditReads.{is_given_as}
use Rattle.table_ledger.proofs.credits.is_among.Given as goal

-- none so far is this one
abbrev pub invariant-loop-stored : goal.invariant-loop-stored
invariant-loop-stored l =
    AreFailed (λ stored. is_given_as l.credit (credit_entry stored).1) l.all l.stored-index
