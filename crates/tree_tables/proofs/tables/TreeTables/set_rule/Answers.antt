use Rattle.std.proofs.Common.{◌∙◌, ap}
use Rattle.table_model.specs.Tables.{BookRow}
use Rattle.tree_tables.proofs.TheBook.{book_changes}
use Rattle.tree_tables.proofs.tables.TreeTables.set_rule.Goals as goal

pub returns : goal.returns
returns g c =
    let made = c.with_rule-book.ensures in
    record {
      does = book_changes g.S.Store
          (λ book. record book { rule = c.args.rule; adopted = c.args.period })
          c.in_ok-read_book.field-0 c.with_rule-book.result c.change_row.result
          c.find_row.ensures.quiet c.in_ok-find_row.ensures.same c.in_ok-find_row.ensures.found
          c.in_ok-number_key.ensures.made c.change_row.ensures.quiet c.change_row.ensures.kept
          c.change_row.ensures.done c.in_ok-read_book.ensures.rule
          c.in_ok-read_book.ensures.adopted c.in_ok-read_book.ensures.held
          c.in_ok-read_book.ensures.amount c.in_ok-book_row.ensures.made
          (λ book is i. record {
            rule = made.rule i;
            adopted = made.adopted i;
            held = (made.held ∙ ap (λ (b : BookRow). b.held) is) i;
            amount = (made.amount ∙ ap (λ (b : BookRow). b.amount) is) i;
          });
    }
