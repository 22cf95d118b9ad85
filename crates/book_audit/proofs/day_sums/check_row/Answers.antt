use Rattle.std.proofs.Common.{◌≡◌, ◌∙◌, ap, rules}
use Rattle.consistent_tables.specs.DueRows.{due_entry}
use Rattle.tree_tables.specs.Columns.{day_columns}
use Rattle.book_audit.specs.Days.{entry_of}
use Rattle.book_audit.proofs.day_sums.check_row.Goals as goal

pub returns : goal.returns
returns c =
    let is : entry_of c.in-Ok.one ≡ due_entry c.args.rulings.now.closes.items c.args.due.now = search rules in
    c.in-Ok.ensures.read ∙ ap day_columns is
