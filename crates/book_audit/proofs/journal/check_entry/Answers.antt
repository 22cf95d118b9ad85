use Rattle.std.proofs.Common.{◌≡◌, ◌∙◌, ◌+◌, ap, rules}
use Rattle.tree_tables.specs.JournalColumns.{entry_stored, journal_columns}
use Rattle.book_audit.proofs.Walks.Looks.{nothing, passed}
use Rattle.book_audit.proofs.journal.check_entry.Goals as goal

pub returns-clause-entry : goal.returns-clause-entry
returns-clause-entry g c clean =
    let one = c.in-Ok.one in
    let number : one.number ≡ c.args.before + 1 = search rules in
    record {
      entry = entry_stored one.entry;
      is = c.in-Ok.ensures.read ∙ ap (λ n. journal_columns (n, entry_stored one.entry)) number;
      placed = c.in_ok-check_ruling.ensures.placed clean;
      says = c.kept_by.ensures;
    }

pub returns-in-Err-clause-looks : goal.returns-in-Err-clause-looks
returns-in-Err-clause-looks g c = (nothing g.S.Store c.args.trees.now.store).quiet

pub returns-then-not-is_next-clause-looks : goal.returns-then-not-is_next-clause-looks
returns-then-not-is_next-clause-looks g c = (nothing g.S.Store c.args.trees.now.store).quiet

pub returns-in_err-check_ruling-clause-looks : goal.returns-in_err-check_ruling-clause-looks
returns-in_err-check_ruling-clause-looks g c =
    passed g.S.Store c.args.trees.now.store c.check_ruling.new.trees.store _
    c.from_residual.ensures.0 c.in_err-check_ruling.ensures.looks

pub returns-clause-looks : goal.returns-clause-looks
returns-clause-looks g c = c.in_ok-check_ruling.ensures.looks
