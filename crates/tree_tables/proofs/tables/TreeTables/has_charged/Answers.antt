use Rattle.tree_tables.proofs.ChargedRows.{has_charged_is}
use Rattle.tree_tables.proofs.Looking.{looks_alone}
use Rattle.tree_tables.proofs.tables.TreeTables.has_charged.Goals as goal

pub returns : goal.returns
returns g c = record {
  looks = looks_alone g.S.Store c.find_mark.result c.find_mark.ensures.quiet
      c.find_mark.ensures.same c.find_mark.ensures.kept c.find_mark.ensures.found
      (λ there found clean tables holds. has_charged_is tables c.args.identity.now
      c.find_mark.new.self.row holds.marks there found);
}
