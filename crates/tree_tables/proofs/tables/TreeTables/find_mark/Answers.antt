use Rattle.sqlite_trees.specs.View.{IsClean}
use Rattle.tree_tables.specs.Columns.{charged_part}
use Rattle.tree_tables.proofs.ChargedRows.{mark_found}
use Rattle.tree_tables.proofs.tables.TreeTables.find_mark.Goals as goal

pub returns-clause-found : goal.returns-clause-found
returns-clause-found g c =
    mark_found (IsClean (g.S.Store.view c.find_row.new.store)) c.charged_key.new.key
    (charged_part c.args.identity.now) c.find_row.new.row
    ((g.S.Store.view c.args.self.now.store).trees 7) c.find_row.result
    c.in_ok-charged_key.ensures.made c.find_row.ensures.found
