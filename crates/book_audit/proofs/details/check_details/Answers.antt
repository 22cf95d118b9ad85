use Rattle.std.proofs.Common.{◌≡◌, ◌∙◌, ◌++◌, ◌∷◌, [], ℤ, List, map, ap, subst, sym}
use Rattle.std.proofs.lemmas.List.{map-append}
use Rattle.sqlite_trees.specs.Tree.{Trees}
use Rattle.sqlite_trees.specs.View.{IsClean}
use Rattle.sqlite_trees.proofs.ListLemmas.{all-append}
use Rattle.sqlite_value.specs.Order.{Row}
use Rattle.book_model.specs.declared.detail.Detail.{Detail}
use Rattle.tree_tables.specs.Columns.{detail_columns}
use Rattle.book_audit.specs.Details.{ShowsCounted}
use Rattle.book_audit.specs.Looks.{IsLook}
use Rattle.book_audit.specs.Walks.{AreRising, HasWalked}
use Rattle.book_audit.specs.declared.finding.Tree.TheVariants.{Details}
use Rattle.book_audit.proofs.Walks.Looks.{looked_on, nothing, passed, stopped_on}
use Rattle.book_audit.proofs.Walks.Steps.{look_back, read_all, read_on, trees_stay}
use Rattle.book_audit.proofs.details.check_details.Goals as goal

-- the row of what is shown
abbrev shown_row : Detail → Row
shown_row one = detail_columns (one, tt)

pub rows-init : goal.rows-init
rows-init g c = record {
  tree = c.begin.ensures.tree;
  looks = nothing g.S.Store c.args.trees.now.store;
  read = λ clean. (
    [],
    c.begin.ensures.start ((g.S.Store.view c.args.trees.now.store).trees 10),
    tt,
  );
}

pub rows-preserved : goal.rows-preserved
rows-preserved g c =
    let start = c.args.trees.now.store in
    let mid = c.rows.trees.store in
    let next = c.next.new.trees.store in
    let new = c.check_shown.new.trees.store in
    let so_far = c.rows.invariant in
    let row : Row = c.next.new.self.row in
    let shown : Detail = c.in-Ok.shown in
    let is : row ≡ detail_columns (shown, tt) = sym c.row.ensures ∙ c.in-Ok.ensures.read in
    let call : IsLook g.S.Store mid next = c.in_ok-next.ensures.looks in
    let check : IsLook g.S.Store next new = c.in_ok-check_shown.ensures.looks in
    let both : IsLook g.S.Store start next = looked_on g.S.Store start mid next so_far.looks call in
    let closes : List ℤ = c.args.rulings.now.closes.items in
    record {
      tree = c.next.ensures.tree ∙ so_far.tree;
      looks = looked_on g.S.Store start next new both check;
      read = λ clean.
          let after : IsClean (g.S.Store.view next) = look_back g.S.Store next new check.same clean in
          let read = so_far.read (look_back g.S.Store mid next call.same after) in
          let counted : ShowsCounted (g.S.Store.view start).trees closes shown =
          subst (λ (all : Trees). ShowsCounted all closes shown)
          (trees_stay g.S.Store start next both.same after) (c.in_ok-check_shown.ensures.counted clean) in (
            read.0 ++ shown ∷ [],
            subst (HasWalked Details c.next.new.self.key ((g.S.Store.view start).trees 10))
                (ap (λ (r : Row). map shown_row read.0 ++ r ∷ []) is
                ∙ sym (map-append shown_row read.0 (shown ∷ [])))
                (read_on g.S.Store start mid next Details c.rows.walk c.next.new.self
                c.in_ok-next.field-0 so_far.tree so_far.looks.same call.same c.in_ok-next.ensures.next
                (λ back. let read = so_far.read back in (map shown_row read.0, read.1)) after
                c.if-not-branch.false),
            all-append (ShowsCounted (g.S.Store.view start).trees closes) read.0 (shown ∷ []) read.2
                (counted, tt),
          );
    }

-- all rows are those of details where there are no more
pub returns-then-not-branch-clause-details : goal.returns-then-not-branch-clause-details
returns-then-not-branch-clause-details g c clean =
    let start = c.args.trees.now.store in
    let mid = c.rows.trees.store in
    let next = c.next.new.trees.store in
    let so_far = c.rows.invariant in
    let call : IsLook g.S.Store mid next = c.in_ok-next.ensures.looks in
    let back : IsClean (g.S.Store.view mid) = look_back g.S.Store mid next call.same clean in
    let read = so_far.read back in
    let all = read_all g.S.Store start mid next Details c.rows.walk c.next.new.self c.in_ok-next.field-0
    so_far.tree so_far.looks.same call.same c.in_ok-next.ensures.next
    (λ back. let read = so_far.read back in (map shown_row read.0, read.1)) clean c.if-not-branch.true in
    record {
      shown = read.0;
      are = all;
      rising = subst (AreRising Details) (sym all) read.1.rising;
      each = read.2;
    }

pub returns-in_err-next-clause-looks : goal.returns-in_err-next-clause-looks
returns-in_err-next-clause-looks g c =
    let start = c.args.trees.now.store in
    let mid = c.rows.trees.store in
    let next = c.next.new.trees.store in
    passed g.S.Store start next _ c.from_residual.ensures.0
    (stopped_on g.S.Store start mid next c.rows.invariant.looks c.in_err-next.ensures.looks)

pub returns-then-not-branch-clause-looks : goal.returns-then-not-branch-clause-looks
returns-then-not-branch-clause-looks g c =
    looked_on g.S.Store c.args.trees.now.store c.rows.trees.store c.next.new.trees.store
    c.rows.invariant.looks c.in_ok-next.ensures.looks

pub returns-in-Err-clause-looks : goal.returns-in-Err-clause-looks
returns-in-Err-clause-looks g c =
    (looked_on g.S.Store c.args.trees.now.store c.rows.trees.store c.next.new.trees.store
    c.rows.invariant.looks c.in_ok-next.ensures.looks).quiet

pub returns-in_err-check_shown-clause-looks : goal.returns-in_err-check_shown-clause-looks
returns-in_err-check_shown-clause-looks g c =
    let start = c.args.trees.now.store in
    let mid = c.rows.trees.store in
    let next = c.next.new.trees.store in
    let new = c.check_shown.new.trees.store in
    passed g.S.Store start new _ c.from_residual-in_err-check_shown.ensures.0
    (stopped_on g.S.Store start next new
    (looked_on g.S.Store start mid next c.rows.invariant.looks c.in_ok-next.ensures.looks)
    c.in_err-check_shown.ensures.looks)

pub returns-clause-looks : goal.returns-clause-looks
returns-clause-looks g c = c.rows.invariant.looks.quiet
