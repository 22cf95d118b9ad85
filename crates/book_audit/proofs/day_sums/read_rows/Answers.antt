use Rattle.std.proofs.Common.{◌≡◌, ◌∙◌, ℕ, ℤ, List, ap, map, take, subst, sym, take_all}
use Rattle.sqlite_value.specs.Order.{Row}
use Rattle.book_model.specs.declared.row.ChargeRow.{ChargeRow}
use Rattle.consistent_tables.specs.DueRows.{due_entry}
use Rattle.tree_tables.specs.Columns.{day_columns}
use Rattle.book_audit.specs.Looks.{IsLook}
use Rattle.book_audit.specs.Walks.{AreRising, HasWalked}
use Rattle.book_audit.specs.declared.finding.Tree.TheVariants.{Days}
use Rattle.book_audit.proofs.Rows.Records.{due_pushed}
use Rattle.book_audit.proofs.Walks.Looks.{looked_on, nothing, passed, stopped_on}
use Rattle.book_audit.proofs.Walks.Steps.{look_back, read_all, read_on}
use Rattle.book_audit.proofs.day_sums.read_rows.Goals as goal

-- the rows of the first sums that are due
abbrev first_due : List ℤ → List ChargeRow → ℕ → List Row
first_due closes due n = map day_columns (map (due_entry closes) (take n due))

pub rows-init : goal.rows-init
rows-init g c = record {
  tree = c.begin.ensures.tree;
  looks = nothing g.S.Store c.args.trees.now.store;
  walked = λ clean. c.begin.ensures.start ((g.S.Store.view c.args.trees.now.store).trees 4);
}

pub rows-preserved : goal.rows-preserved
rows-preserved g c =
    let start = c.args.trees.now.store in
    let mid = c.rows.trees.store in
    let next = c.next.new.trees.store in
    let so_far = c.rows.invariant in
    let row : Row = c.next.new.self.row in
    let closes : List ℤ = c.args.rulings.now.closes.items in
    let is : row ≡ day_columns (due_entry closes c.next-item.result) =
    sym c.row.ensures ∙ c.in_ok-check_row.ensures in
    let call : IsLook g.S.Store mid next = c.in_ok-next.ensures.looks in
    let done : List Row = first_due closes c.args.due.now c.rows.next-index in
    record {
      tree = c.next.ensures.tree ∙ so_far.tree;
      looks = looked_on g.S.Store start mid next so_far.looks call;
      walked = λ clean.
          subst (HasWalked Days c.next.new.self.key ((g.S.Store.view start).trees 4))
          (due_pushed closes c.args.due.now c.rows.next-index c.next-item.result row c.rows-test.true
          c.next-item.is is)
          (read_on g.S.Store start mid next Days c.rows.walk c.next.new.self c.in_ok-next.field-0
          so_far.tree so_far.looks.same call.same c.in_ok-next.ensures.next
          (λ back. (done, so_far.walked back)) clean c.if-not-branch.false);
    }

-- all rows are those that are due where there are no more
pub returns-clause-rows : goal.returns-clause-rows
returns-clause-rows g c clean =
    let start = c.args.trees.now.store in
    let mid = c.rows.trees.store in
    let next = c.next-2.new.trees.store in
    let so_far = c.rows.invariant in
    let call : IsLook g.S.Store mid next = c.in_ok-next-2.ensures.looks in
    let closes : List ℤ = c.args.rulings.now.closes.items in
    let due : List ChargeRow = c.args.due.now in
    let done : List Row = first_due closes due c.rows.next-index in
    let all : (g.S.Store.view start).trees 4 ≡ done =
    read_all g.S.Store start mid next Days c.rows.walk c.next-2.new.self c.in_ok-next-2.field-0
    so_far.tree so_far.looks.same call.same c.in_ok-next-2.ensures.next
    (λ back. (done, so_far.walked back)) clean c.if-branch.false in (
      all ∙ ap (λ (sums : List ChargeRow). map day_columns (map (due_entry closes) sums))
          (take_all c.rows.next-index due c.rows-test.false),
      subst (AreRising Days) (sym all)
          (so_far.walked (look_back g.S.Store mid next call.same clean)).rising,
    )

pub returns-in_err-next-clause-looks : goal.returns-in_err-next-clause-looks
returns-in_err-next-clause-looks g c =
    let start = c.args.trees.now.store in
    let mid = c.rows.trees.store in
    let next = c.next.new.trees.store in
    passed g.S.Store start next _ c.from_residual.ensures.0
    (stopped_on g.S.Store start mid next c.rows.invariant.looks c.in_err-next.ensures.looks)

pub returns-in_err-next-2-clause-looks : goal.returns-in_err-next-2-clause-looks
returns-in_err-next-2-clause-looks g c =
    let start = c.args.trees.now.store in
    let mid = c.rows.trees.store in
    let next = c.next-2.new.trees.store in
    passed g.S.Store start next _ c.from_residual-in_err-next-2.ensures.0
    (stopped_on g.S.Store start mid next c.rows.invariant.looks c.in_err-next-2.ensures.looks)

pub returns-then-not-branch-clause-looks : goal.returns-then-not-branch-clause-looks
returns-then-not-branch-clause-looks g c =
    (looked_on g.S.Store c.args.trees.now.store c.rows.trees.store c.next.new.trees.store
    c.rows.invariant.looks c.in_ok-next.ensures.looks).quiet

pub returns-in_err-check_row-clause-looks : goal.returns-in_err-check_row-clause-looks
returns-in_err-check_row-clause-looks g c =
    let start = c.args.trees.now.store in
    let next = c.next.new.trees.store in
    passed g.S.Store start next _ c.from_residual-in_err-check_row.ensures.0
    (looked_on g.S.Store start c.rows.trees.store next c.rows.invariant.looks
    c.in_ok-next.ensures.looks).quiet

pub returns-then-branch-clause-looks : goal.returns-then-branch-clause-looks
returns-then-branch-clause-looks g c =
    (looked_on g.S.Store c.args.trees.now.store c.rows.trees.store c.next-2.new.trees.store
    c.rows.invariant.looks c.in_ok-next-2.ensures.looks).quiet

pub returns-clause-looks : goal.returns-clause-looks
returns-clause-looks g c =
    looked_on g.S.Store c.args.trees.now.store c.rows.trees.store c.next-2.new.trees.store
    c.rows.invariant.looks c.in_ok-next-2.ensures.looks
