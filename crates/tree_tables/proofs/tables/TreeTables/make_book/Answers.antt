use Rattle.sqlite_trees.specs.Tree.{order_of}
use Rattle.tree_tables.proofs.NewTables.{makes_by}
use Rattle.tree_tables.proofs.tables.TreeTables.make_book.Goals as goal

pub returns : goal.returns
returns g c =
    let ghosts = g.S.Store in
    let old = c.args.self.now.store in
    let new = c.insert.new.self in
    let row = c.book_row.new.row in
    record {
      makes = makes_by ghosts old new (order_of ((ghosts.view old).shape 0)) row c.insert.result
          c.insert.ensures.quiet c.insert.ensures.err c.insert.ensures.frame c.insert.ensures.ok
          c.in_ok-book_row.ensures.made;
    }
