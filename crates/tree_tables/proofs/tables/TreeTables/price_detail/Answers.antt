use Rattle.std.proofs.Common.{◌≡◌, ◌∙◌, ℕ, List, ap, subst}
use Rattle.sqlite_value.specs.Order.{Row}
use Rattle.book_model.specs.Words.{detail_with, record_with}
use Rattle.tree_rows.specs.Rows.{Replaces}
use Rattle.tree_tables.specs.Columns.{detail_columns}
use Rattle.tree_tables.proofs.Looking.{ok_so}
use Rattle.tree_tables.proofs.tables.TreeTables.price_detail.Goals as goal

-- the two rows are those of the record at the two prices
pub returns-clause-replaces : goal.returns-clause-replaces
returns-clause-replaces g c =
    let ghosts = g.S.Store in
    let stored = c.args.stored.now in
    let bytes : c.in_ok-usage.usage ≡ record_with stored.data_bytes.items =
    c.in_ok-usage.ensures.value
    ∙ ◌∙◌ {A = List ℕ} c.deref-2.ensures.value
    (◌∙◌ {A = List ℕ} c.in_ok-put_data.ensures.bytes (ap record_with c.deref.ensures.value)) in
    let from = c.in_ok-detail_row.ensures
    ∙ ap (λ usage. detail_columns (detail_with stored.name usage stored.priced, tt)) bytes in
    let to = c.in_ok-detail_row-2.ensures
    ∙ ap (λ usage. detail_columns (detail_with stored.name usage c.args.priced.now, tt)) bytes in
    ok_so c.replace_row.result c.replace_row.ensures.replaces (λ done clean.
    subst (λ (rows : Row × Row). Replaces (ghosts.view c.args.self.now.store)
    (ghosts.view c.replace_row.new.store) 10 rows.0 rows.1) (λ i. (from i, to i)) (done clean))
