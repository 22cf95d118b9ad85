use Rattle.std.proofs.Common.{◌∙◌, sym, true≢false}
use Rattle.tree_tables.proofs.Looking.{looks_found}
use Rattle.tree_tables.proofs.TheBook.{book_found, book_there}
use Rattle.tree_tables.proofs.tables.TreeTables.find_book.Goals as goal

pub returns-then-not-branch : goal.returns-then-not-branch
returns-then-not-branch g c = record {
  row = λ clean.
      sym c.if-not-branch.true
      ∙ book_found (g.S.Store.view c.args.self.now.store).trees c.number_key.new.key
      c.find_row.new.row c.in_ok-find_row.field-0 c.in_ok-number_key.ensures.made
      (c.in_ok-find_row.ensures.found clean);
  looks = looks_found g.S.Store c.find_row.ensures.quiet c.in_ok-find_row.ensures.same
      (λ clean tables holds. absurd (true≢false
      (sym (book_there _ tables.book c.number_key.new.key c.find_row.new.row
      c.in_ok-find_row.field-0 holds.book c.in_ok-number_key.ensures.made
      (c.in_ok-find_row.ensures.found clean)).0 ∙ c.if-not-branch.true)));
}

pub returns-clause-row : goal.returns-clause-row
returns-clause-row g c = λ clean.
    sym c.if-not-branch.false
    ∙ book_found (g.S.Store.view c.args.self.now.store).trees c.number_key.new.key
    c.find_row.new.row c.in_ok-find_row.field-0 c.in_ok-number_key.ensures.made
    (c.in_ok-find_row.ensures.found clean)
