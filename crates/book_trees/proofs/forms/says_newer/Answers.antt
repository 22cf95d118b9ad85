use Rattle.std.proofs.Common.{◌≤◌, arith}
use Rattle.sqlite_store.specs.FileStore.{view}
use Rattle.tree_tables.specs.Forms.{this_form}
use Rattle.book_trees.proofs.FormNumbers.{not_newer}
use Rattle.book_trees.proofs.forms.says_newer.Goals as goal

pub returns-clause-other : goal.returns-clause-other
returns-clause-other g c older clean is_open newer =
    let within : c.version.result ≤ this_form = grind (arith, older) in
    not_newer (view c.args.store.now).trees c.version.result (c.version.ensures clean is_open)
    within newer
