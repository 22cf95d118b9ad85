use Rattle.std.proofs.Common.{◌∙◌, ap, subst}
use Rattle.std.specs.List.{AllZip}
use Rattle.tree_rows.specs.Runs.{run_of}
use Rattle.tree_rows.proofs.Runs.{run_whole}
use Rattle.tree_tables.proofs.Looking.{looks_alone}
use Rattle.tree_tables.proofs.tables.TreeTables.list_all.Goals as goal

-- the rows that begin with no columns are all rows
pub returns : goal.returns
returns g c = record {
  looks = λ rows held.
      looks_alone g.S.Store c.list_run.result c.list_run.ensures.quiet c.list_run.ensures.same
      c.list_run.ensures.kept c.list_run.ensures.found (λ all read clean tables holds.
      let trees = (g.S.Store.view c.args.self.now.store).trees in
      subst (λ some. AllZip g.T.ReadRow.says some all.items)
      (ap (λ part. run_of part (trees c.args.tree)) c.clear.ensures ∙ run_whole (trees c.args.tree)
      ∙ held tables holds) read);
}
