use Rattle.tree_tables.proofs.LastNumbers.{number_none, number_read}
use Rattle.tree_tables.proofs.Layouts.{journal_layout}
use Rattle.tree_tables.proofs.Looking.{looks_found, looks_read}
use Rattle.tree_tables.proofs.tables.TreeTables.last_entry.Goals as goal

-- there is no entry
pub returns-then-not-branch-clause-looks : goal.returns-then-not-branch-clause-looks
returns-then-not-branch-clause-looks g c =
    looks_found g.S.Store c.last_row.ensures.quiet c.in_ok-last_row.ensures.same
    (λ clean tables holds.
    number_none (journal_layout.rest 0) tables.journal _ c.last_row.new.row holds.journal
    (rw c.if-not-branch.true at (c.in_ok-last_row.ensures.found clean)))

-- the number of the newest one is read
pub returns-clause-looks : goal.returns-clause-looks
returns-clause-looks g c =
    looks_read g.S.Store c.count_at.result c.last_row.ensures.quiet
    c.in_ok-last_row.ensures.same c.count_at.ensures.read
    (λ number says clean tables holds.
    number_read (journal_layout.rest 0) tables.journal _ c.last_row.new.row holds.journal number
    (rw c.if-not-branch.false at (c.in_ok-last_row.ensures.found clean)) says)
