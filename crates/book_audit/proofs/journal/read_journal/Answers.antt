use Rattle.std.proofs.Common.{◌≡◌, ◌∙◌, ◌++◌, ◌∷◌, [], ℕ, List, arith, length-append, refl, subst}
use Rattle.sqlite_trees.specs.Tree.{Trees}
use Rattle.sqlite_trees.specs.View.{IsClean}
use Rattle.sqlite_trees.proofs.ListLemmas.{all-append}
use Rattle.sqlite_value.specs.Order.{Row}
use Rattle.table_model.specs.Tables.{JournalRow}
use Rattle.book_audit.specs.Journal.{IsEntryRow, IsPlaced, entry_rows}
use Rattle.book_audit.specs.Looks.{IsLook}
use Rattle.book_audit.specs.Walks.{HasWalked}
use Rattle.book_audit.specs.declared.finding.Tree.TheVariants.{Journal}
use Rattle.book_audit.proofs.Rows.Journal.{entries_pushed, kept_pushed}
use Rattle.book_audit.proofs.Walks.Looks.{looked_on, nothing, passed, stopped_on}
use Rattle.book_audit.proofs.Walks.Steps.{look_back, read_all, read_on, trees_stay}
use Rattle.book_audit.proofs.journal.read_journal.Goals as goal

pub entries-init : goal.entries-init
entries-init g c = record {
  tree = c.begin.ensures.tree;
  looks = nothing g.S.Store c.args.trees.now.store;
  read = λ clean. (
    [],
    c.begin.ensures.start ((g.S.Store.view c.args.trees.now.store).trees 13),
    tt,
    refl,
    c.new-due.ensures,
  );
}

-- one row more
pub entries-preserved : goal.entries-preserved
entries-preserved g c =
    let start = c.args.trees.now.store in
    let mid = c.entries.trees.store in
    let next = c.next.new.trees.store in
    let new = c.check_entry.new.trees.store in
    let so_far = c.entries.invariant in
    let row : Row = c.next.new.self.row in
    let rule = c.args.rule in
    let count : ℕ = c.entries.count in
    let kept : ℕ = c.in_ok-kept.kept in
    let call : IsLook g.S.Store mid next = c.in_ok-next.ensures.looks in
    let check : IsLook g.S.Store next new = c.in_ok-kept.ensures.looks in
    let both : IsLook g.S.Store start next = looked_on g.S.Store start mid next so_far.looks call in
    record {
      tree = c.next.ensures.tree ∙ so_far.tree;
      looks = looked_on g.S.Store start next new both check;
      read = λ clean.
          let after : IsClean (g.S.Store.view next) = look_back g.S.Store next new check.same clean in
          let read = so_far.read (look_back g.S.Store mid next call.same after) in
          let its : IsEntryRow (g.S.Store.view start).trees rule count row kept =
          subst (λ (all : Trees). IsEntryRow all rule count row kept)
          (trees_stay g.S.Store start next both.same after)
          (subst (λ (read : Row). IsEntryRow (g.S.Store.view next).trees rule count read kept)
          c.row.ensures (c.in_ok-kept.ensures.entry clean)) in
          let one : JournalRow = its.entry in
          let counted = read.3 in
          let long = length-append read.0 (one ∷ []) in (
            read.0 ++ one ∷ [],
            subst (HasWalked Journal c.next.new.self.key ((g.S.Store.view start).trees 13))
                (entries_pushed read.0 one count row its.is counted)
                (read_on g.S.Store start mid next Journal c.entries.walk c.next.new.self
                c.in_ok-next.field-0 so_far.tree so_far.looks.same call.same c.in_ok-next.ensures.next
                (λ back. (entry_rows (so_far.read back).0, (so_far.read back).1)) after
                c.if-not-branch.false),
            all-append (λ (entry : JournalRow). IsPlaced (g.S.Store.view start).trees rule entry.act)
                read.0 (one ∷ []) read.2 (its.placed, tt),
            omega (arith, counted, long),
            c.in_ok-push.ensures
                ∙ kept_pushed c.entries.due.left.items read.0 one kept read.4 its.says,
          );
    }

-- all of them where there are no more
pub returns-then-not-branch-clause-entered : goal.returns-then-not-branch-clause-entered
returns-then-not-branch-clause-entered g c clean =
    let start = c.args.trees.now.store in
    let mid = c.entries.trees.store in
    let next = c.next.new.trees.store in
    let so_far = c.entries.invariant in
    let call : IsLook g.S.Store mid next = c.in_ok-next.ensures.looks in
    let read = so_far.read (look_back g.S.Store mid next call.same clean) in
    record {
      entries = read.0;
      are = read_all g.S.Store start mid next Journal c.entries.walk c.next.new.self
          c.in_ok-next.field-0 so_far.tree so_far.looks.same call.same c.in_ok-next.ensures.next
          (λ back. (entry_rows (so_far.read back).0, (so_far.read back).1)) clean c.if-not-branch.true;
      placed = read.2;
      says = read.4;
    }

pub returns-in_err-next-clause-looks : goal.returns-in_err-next-clause-looks
returns-in_err-next-clause-looks g c =
    let start = c.args.trees.now.store in
    let mid = c.entries.trees.store in
    let next = c.next.new.trees.store in
    passed g.S.Store start next _ c.from_residual.ensures.0
    (stopped_on g.S.Store start mid next c.entries.invariant.looks c.in_err-next.ensures.looks)

pub returns-then-not-branch-clause-looks : goal.returns-then-not-branch-clause-looks
returns-then-not-branch-clause-looks g c =
    looked_on g.S.Store c.args.trees.now.store c.entries.trees.store c.next.new.trees.store
    c.entries.invariant.looks c.in_ok-next.ensures.looks

pub returns-in_err-kept-clause-looks : goal.returns-in_err-kept-clause-looks
returns-in_err-kept-clause-looks g c =
    let start = c.args.trees.now.store in
    let mid = c.entries.trees.store in
    let next = c.next.new.trees.store in
    let new = c.check_entry.new.trees.store in
    passed g.S.Store start new _ c.from_residual-in_err-kept.ensures.0
    (stopped_on g.S.Store start next new
    (looked_on g.S.Store start mid next c.entries.invariant.looks c.in_ok-next.ensures.looks)
    c.in_err-kept.ensures.looks)

pub returns-in_err-push-clause-looks : goal.returns-in_err-push-clause-looks
returns-in_err-push-clause-looks g c =
    let start = c.args.trees.now.store in
    let mid = c.entries.trees.store in
    let next = c.next.new.trees.store in
    let new = c.check_entry.new.trees.store in
    passed g.S.Store start new _ c.from_residual-in_err-push.ensures.0
    (looked_on g.S.Store start next new
    (looked_on g.S.Store start mid next c.entries.invariant.looks c.in_ok-next.ensures.looks)
    c.in_ok-kept.ensures.looks).quiet

pub returns-clause-looks : goal.returns-clause-looks
returns-clause-looks g c = c.entries.invariant.looks.quiet
