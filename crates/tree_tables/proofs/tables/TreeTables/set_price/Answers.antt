use Rattle.std.proofs.Common.{◌≡◌, ◌∙◌, ◌++◌, ap, refl, sym}
use Rattle.tree_rows.proofs.Calls.{clean_before, kept_same, quiet_both}
use Rattle.tree_rows.proofs.Taking.{some_is}
use Rattle.tree_tables.specs.Columns.{came_columns, record_columns, record_front}
use Rattle.tree_tables.specs.Stored.{stored_entry}
use Rattle.tree_tables.proofs.Looking.{does_err, does_then, rewrites_after_look, survives}
use Rattle.tree_tables.proofs.Prices.{record_priced}
use Rattle.tree_tables.proofs.Records.{record_there}
use Rattle.tree_tables.proofs.tables.TreeTables.set_price.Goals as goal

-- the row is not there
pub returns-then-not-branch : goal.returns-then-not-branch
returns-then-not-branch g c = record {
  does = does_err _ refl (survives g.S.Store c.find_row.ensures.quiet)
      (λ clean. kept_same (c.in_ok-find_row.ensures.same clean));
}

-- the row makes room for the one with the price, and so does that of its detail
pub returns : goal.returns
returns g c = record {
  does =
      let ghosts = g.S.Store in
      let old = ghosts.view c.args.self.now.store in
      let stored = c.args.stored.now in
      let step = c.change_row.ensures.quiet in
      let last = c.price_detail.ensures.quiet in
      does_then ghosts c.price_detail.result (quiet_both ghosts c.find_row.ensures.quiet step)
      (λ clean. (rewrites_after_look {old = old}
      (c.in_ok-find_row.ensures.same (clean_before ghosts step clean))
      (c.in_ok-change_row.ensures.done clean)).only)
      last c.price_detail.ensures.kept c.price_detail.ensures.replaces
      (λ replaces. replaces.rewrites.only)
      (λ clean replaces tables holds stands.
      let after = clean_before ghosts last clean in
      let before = clean_before ghosts step after in
      let there = record_there tables holds.records c.in_ok-bytes_key.ensures.made
      (c.in_ok-find_row.ensures.found before) c.if-not-branch.false in
      let own = some_is there.0 (stored_entry stored).1 (sym there.1 ∙ stands) in
      let came = c.in_ok-came.ensures.read tables.came (stored.name, there.0) there.2 in
      let front = c.in_ok-record_row.ensures ∙ ap record_front c.with_price.ensures in
      record_priced old tables stored c.args.priced.now
      (c.in_ok-find_row.ensures.same before) (c.in_ok-change_row.ensures.done after) replaces
      (there.2 ∙ ap (λ one. record_columns tables.came (stored.name, one)) own)
      (c.in_ok-push_came.ensures ∙ (λ i. front i ++ came_columns (came i))) stands holds);
}
