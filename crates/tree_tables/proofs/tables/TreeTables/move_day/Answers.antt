use Rattle.std.proofs.Common.{◌≡◌, ◌∙◌, ◌+◌, suc, sym, ap, arith}
use Rattle.table_model.specs.TablesOf.{row_key}
use Rattle.tree_tables.specs.Columns.{day_columns}
use Rattle.tree_tables.proofs.MoveDays.{one_moved, other_found, some_looked, some_more}
use Rattle.tree_rows.proofs.Calls.{clean_before}
use Rattle.tree_tables.proofs.tables.TreeTables.move_day.Goals as goal

-- a look changes nothing
pub returns-then-not-branch-clause-moved : goal.returns-then-not-branch-clause-moved
returns-then-not-branch-clause-moved g c clean =
    some_looked c.args.close.now.period c.args.close.now.through
    (c.in_ok-first_from.ensures.same clean)

pub returns-then-not-is_of-clause-moved : goal.returns-then-not-is_of-clause-moved
returns-then-not-is_of-clause-moved g c clean =
    some_looked c.args.close.now.period c.args.close.now.through
    (c.in_ok-first_from.ensures.same clean)

-- where the row that is found is of another period, none of the period is left
pub returns-then-not-is_of-clause-ended : goal.returns-then-not-is_of-clause-ended
returns-then-not-is_of-clause-ended g c ended clean =
    other_found c.args.close.now.period c.args.close.now.through
    (g.S.Store.view c.args.self.now.store) (g.S.Store.view c.first_from.new.store)
    c.first_from.new.row c.in_ok-first_from.field-0
    (c.in_ok-first_from.ensures.same clean) (c.in_ok-first_from.ensures.found clean)
    c.in_ok-later_key.ensures c.if-not-branch.false
    (λ m is. sym (c.is_of.ensures m is) ∙ c.if-not-is_of.true)

-- the row that is found goes to the next period
pub returns-clause-moved : goal.returns-clause-moved
returns-clause-moved g c clean =
    let before = clean_before g.S.Store c.change_row.ensures.quiet clean in
    let same = c.in_ok-first_from.ensures.same before in
    let charge = c.in_ok-charge.charge in
    let next : c.from.result + 1 ≡ suc c.args.close.now.period = omega (arith, c.from.ensures) in
    some_more c.args.close.now.period c.args.close.now.through
    (some_looked c.args.close.now.period c.args.close.now.through same)
    (one_moved c.args.close.now.period c.args.close.now.through
    (g.S.Store.view c.args.self.now.store) (g.S.Store.view c.first_from.new.store)
    c.first_from.new.row c.in_ok-first_from.field-0 same
    (c.in_ok-first_from.ensures.found before) c.in_ok-later_key.ensures charge c.day_row.new.row
    c.if-not-branch.false (λ m is. sym (c.is_of.ensures m is) ∙ c.if-not-is_of.false)
    c.in_ok-charge.ensures.says
    (c.in_ok-day_row.ensures ∙ ap (λ m. day_columns ((m, row_key charge), charge)) next)
    (c.in_ok-change_row.ensures.done clean))
