use Rattle.book_audit.proofs.Walks.Looks.{passed}
use Rattle.book_audit.proofs.entry_counts.check_entries.Goals as goal

pub returns-in_err-entries-clause-looks : goal.returns-in_err-entries-clause-looks
returns-in_err-entries-clause-looks g c =
    passed g.S.Store c.args.trees.now.store c.count_rows.new.trees.store _ c.from_residual.ensures.0
    c.in_err-entries.ensures.looks

pub returns-then-entries-rows-clause-looks : goal.returns-then-entries-rows-clause-looks
returns-then-entries-rows-clause-looks g c = c.in_ok-entries.ensures.looks

pub returns-else-entries-rows-clause-looks : goal.returns-else-entries-rows-clause-looks
returns-else-entries-rows-clause-looks g c = c.in_ok-entries.ensures.looks.quiet
