use Rattle.std.proofs.Common.{◌≡◌, ◌∙◌, ◌++◌, ◌∷◌, [], ℤ, All, List, None, map, ap, rules, subst}
use Rattle.std.proofs.Common.{sym, w32, int_cmp}
use Rattle.std.specs.List.Sorted.{IsStrictlySortedBy}
use Rattle.sqlite_value.specs.Order.{Row}
use Rattle.book_model.proofs.Std.{last_or, to_z-of_z, All-nil, All-push}
use Rattle.book_model.specs.Words.{IsDay}
use Rattle.book_model.proofs.Lemmas.{day_fits}
use Rattle.table_model.specs.Words.{close_entries}
use Rattle.table_model.proofs.CloseOrder.{rise_behind}
use Rattle.tree_tables.specs.Columns.{closed_columns}
use Rattle.book_audit.specs.Looks.{IsLook}
use Rattle.book_audit.specs.Rulings.{IsCloseRow}
use Rattle.book_audit.specs.Walks.{HasWalked}
use Rattle.book_audit.specs.declared.finding.Tree.TheVariants.{Closes}
use Rattle.book_audit.proofs.Rows.Rulings.{closes_pushed, is_later}
use Rattle.book_audit.proofs.Walks.Looks.{looked_on, nothing, passed, stopped_on}
use Rattle.book_audit.proofs.Walks.Steps.{read_all, read_on}
use Rattle.book_audit.proofs.rulings.read_closes.Goals as goal

-- the rows of the closes through these days
abbrev closed_rows : List ℤ → List Row
closed_rows days = map closed_columns (close_entries 1 days)

pub closes-init : goal.closes-init
unfolding IsStrictlySortedBy
closes-init g c = record {
  tree = c.begin.ensures.tree;
  looks = nothing g.S.Store c.args.trees.now.store;
  walked = λ clean.
      let rows = (g.S.Store.view c.args.trees.now.store).trees 2 in
      let none : c.new-days.result.items ≡ [] = c.new-days.ensures.items in
      subst (λ days. HasWalked Closes c.begin.new.self.key rows
      (map closed_columns (close_entries 1 days))) (sym none) (c.begin.ensures.start rows);
  days = subst (All IsDay) (sym c.new-days.ensures.items) (All-nil IsDay);
  in_order = subst (IsStrictlySortedBy int_cmp) (sym c.new-days.ensures.items) tt;
}

pub closes-preserved : goal.closes-preserved
closes-preserved g c =
    let start = c.args.trees.now.store in
    let mid = c.closes.trees.store in
    let new = c.next.new.trees.store in
    let so_far = c.closes.invariant in
    let days : List ℤ = c.closes.days.items in
    let row : Row = c.next.new.self.row in
    let call : IsLook g.S.Store mid new = c.in_ok-next.ensures.looks in
    let got : ℤ = c.in_ok-next_close.field-0 in
    let its : IsCloseRow days row got = search rules in
    let next = its.next in
    let day : ℤ = its.close.through in
    let pushed : c.push.new.self.items ≡ days ++ day ∷ [] =
    c.in_ok-push.ensures.items ∙ ap (λ (one : ℤ). days ++ one ∷ [])
    (to_z-of_z w32 got (day_fits got (subst IsDay (sym its.through) next.day)) ∙ its.through) in
    record {
      tree = c.next.ensures.tree ∙ so_far.tree;
      looks = looked_on g.S.Store start mid new so_far.looks call;
      walked = λ clean.
          subst (HasWalked Closes c.next.new.self.key ((g.S.Store.view start).trees 2))
          (closes_pushed days its.close.period day row its.is next.period
          ∙ ap closed_rows (sym pushed))
          (read_on g.S.Store start mid new Closes c.closes.walk c.next.new.self c.in_ok-next.field-0
          so_far.tree so_far.looks.same call.same c.in_ok-next.ensures.next
          (λ back. (closed_rows days, so_far.walked back)) clean c.if-not-branch.false);
      days = subst (All IsDay) (sym pushed) (All-push IsDay days day so_far.days next.day);
      in_order = subst (IsStrictlySortedBy int_cmp) (sym pushed) (rise_behind days day
          so_far.in_order (is_later (last_or None days) day next.later));
    }

-- all rows are those of closes where there are no more
pub returns-then-not-branch-clause-closed : goal.returns-then-not-branch-clause-closed
returns-then-not-branch-clause-closed g c clean =
    let start = c.args.trees.now.store in
    let mid = c.closes.trees.store in
    let next = c.next.new.trees.store in
    let so_far = c.closes.invariant in
    let call : IsLook g.S.Store mid next = c.in_ok-next.ensures.looks in
    let all = read_all g.S.Store start mid next Closes c.closes.walk c.next.new.self c.in_ok-next.field-0
    so_far.tree so_far.looks.same call.same c.in_ok-next.ensures.next
    (λ back. (closed_rows c.closes.days.items, so_far.walked back)) clean c.if-not-branch.true in
    record { are = all; valid = so_far.days; in_order = so_far.in_order }

pub returns-in_err-next-clause-looks : goal.returns-in_err-next-clause-looks
returns-in_err-next-clause-looks g c =
    let start = c.args.trees.now.store in
    let mid = c.closes.trees.store in
    let next = c.next.new.trees.store in
    passed g.S.Store start next _ c.from_residual.ensures.0
    (stopped_on g.S.Store start mid next c.closes.invariant.looks c.in_err-next.ensures.looks)

pub returns-then-not-branch-clause-looks : goal.returns-then-not-branch-clause-looks
returns-then-not-branch-clause-looks g c =
    looked_on g.S.Store c.args.trees.now.store c.closes.trees.store c.next.new.trees.store
    c.closes.invariant.looks c.in_ok-next.ensures.looks

pub returns-in_err-next_close-clause-looks : goal.returns-in_err-next_close-clause-looks
returns-in_err-next_close-clause-looks g c =
    let start = c.args.trees.now.store in
    let next = c.next.new.trees.store in
    passed g.S.Store start next _ c.from_residual-in_err-next_close.ensures.0
    (looked_on g.S.Store start c.closes.trees.store next c.closes.invariant.looks
    c.in_ok-next.ensures.looks).quiet

pub returns-in_err-push-clause-looks : goal.returns-in_err-push-clause-looks
returns-in_err-push-clause-looks g c =
    let start = c.args.trees.now.store in
    let next = c.next.new.trees.store in
    passed g.S.Store start next _ c.from_residual-in_err-push.ensures.0
    (looked_on g.S.Store start c.closes.trees.store next c.closes.invariant.looks
    c.in_ok-next.ensures.looks).quiet

pub returns-clause-looks : goal.returns-clause-looks
returns-clause-looks g c = c.closes.invariant.looks.quiet
