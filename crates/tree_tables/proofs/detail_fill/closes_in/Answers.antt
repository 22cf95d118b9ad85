use Rattle.std.proofs.Common.{◌∙◌, ap, subst}
use Rattle.std.specs.FinMap.{entries}
use Rattle.std.specs.List.{AllZip}
use Rattle.tree_rows.specs.Runs.{run_of}
use Rattle.tree_rows.proofs.Runs.{run_whole}
use Rattle.tree_tables.proofs.Looking.{looks_alone}
use Rattle.tree_tables.proofs.Rulings.{SaysClose, closes_said}
use Rattle.tree_tables.proofs.detail_fill.closes_in.Goals as goal

-- the rows that begin with no columns are all rows
pub returns-clause-looks : goal.returns-clause-looks
returns-clause-looks g c =
    looks_alone g.S.Store c.list_run.result c.list_run.ensures.quiet
    c.list_run.ensures.same c.list_run.ensures.kept c.list_run.ensures.found
    (λ list read clean tables holds.
    let rows = (g.S.Store.view c.args.store.now).trees 2 in
    closes_said (entries tables.closes) list.items
    (subst (λ some. AllZip SaysClose some list.items)
    (ap (λ part. run_of part rows) c.new-key.ensures ∙ run_whole rows ∙ holds.closes) read))
