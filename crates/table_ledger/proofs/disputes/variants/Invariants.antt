use Rattle.std.proofs.Common.{◌≡◌, map, take}
use Rattle.table_model.specs.DisputesRead.{variant_read}
use Rattle.tree_tables.specs.Stored.{stored_entry}
use Rattle.table_ledger.proofs.disputes.variants.Given as goal

-- the members so far are the records so far
abbrev pub invariant-loop-stored : goal.invariant-loop-stored
invariant-loop-stored l =
    l.members.items ≡ map variant_read (map stored_entry (take l.stored-index l.rows))
