use Rattle.std.proofs.Common.{◌∙◌, ◌++◌, ◌∷◌, [], List, arith, length-append, refl, rules, subst, sym}
use Rattle.sqlite_trees.specs.View.{IsClean}
use Rattle.sqlite_trees.proofs.ListLemmas.{all-append}
use Rattle.sqlite_value.specs.Order.{Row}
use Rattle.book_audit.specs.Entries.{AreCounted, IsEntry}
use Rattle.book_audit.specs.Looks.{IsLook}
use Rattle.book_audit.specs.Trees.{tree_number}
use Rattle.book_audit.proofs.Walks.Looks.{looked_on, nothing, passed, stopped_on}
use Rattle.book_audit.proofs.Walks.Steps.{look_back, read_all, read_on}
use Rattle.book_audit.proofs.entry_counts.count_rows.Goals as goal

pub entries-init : goal.entries-init
entries-init g c = record {
  tree = c.begin.ensures.tree;
  looks = nothing g.S.Store c.args.trees.now.store;
  read = λ clean. (
    [],
    c.begin.ensures.start
        ((g.S.Store.view c.args.trees.now.store).trees (tree_number c.args.tree)),
    tt,
    refl,
  );
}

pub entries-preserved : goal.entries-preserved
entries-preserved g c =
    let start = c.args.trees.now.store in
    let mid = c.entries.trees.store in
    let next = c.next.new.trees.store in
    let so_far = c.entries.invariant in
    let tree = c.args.tree in
    let row : Row = c.next.new.self.row in
    let call : IsLook g.S.Store mid next = c.in_ok-next.ensures.looks in
    let its : IsEntry tree row = search rules in
    record {
      tree = c.next.ensures.tree ∙ so_far.tree;
      looks = looked_on g.S.Store start mid next so_far.looks call;
      read = λ clean.
          let read = so_far.read (look_back g.S.Store mid next call.same clean) in
          let so_many = read.3 in
          let long = length-append read.0 (row ∷ []) in (
            read.0 ++ row ∷ [],
            read_on g.S.Store start mid next tree c.entries.walk c.next.new.self c.in_ok-next.field-0
                so_far.tree so_far.looks.same call.same c.in_ok-next.ensures.next
                (λ back. ((so_far.read back).0, (so_far.read back).1)) clean c.if-not-branch.false,
            all-append (IsEntry tree) read.0 (row ∷ []) read.2 (its, tt),
            omega (arith, so_many, long),
          );
    }

-- all rows are entries where there are no more
pub returns-then-not-branch-clause-counted : goal.returns-then-not-branch-clause-counted
returns-then-not-branch-clause-counted g c clean =
    let start = c.args.trees.now.store in
    let mid = c.entries.trees.store in
    let next = c.next.new.trees.store in
    let so_far = c.entries.invariant in
    let call : IsLook g.S.Store mid next = c.in_ok-next.ensures.looks in
    let back : IsClean (g.S.Store.view mid) = look_back g.S.Store mid next call.same clean in
    let read = so_far.read back in
    let all = read_all g.S.Store start mid next c.args.tree c.entries.walk c.next.new.self c.in_ok-next.field-0
    so_far.tree so_far.looks.same call.same c.in_ok-next.ensures.next
    (λ back. ((so_far.read back).0, (so_far.read back).1)) clean c.if-not-branch.true in
    subst (λ (rows : List Row). AreCounted c.args.tree rows c.entries.count) (sym all)
    (record { each = read.2; wide = read.1.wide; rising = read.1.rising; are = read.3 })

pub returns-in_err-next-clause-looks : goal.returns-in_err-next-clause-looks
returns-in_err-next-clause-looks g c =
    let start = c.args.trees.now.store in
    let mid = c.entries.trees.store in
    let next = c.next.new.trees.store in
    passed g.S.Store start next _ c.from_residual.ensures.0
    (stopped_on g.S.Store start mid next c.entries.invariant.looks c.in_err-next.ensures.looks)

pub returns-then-not-branch-clause-looks : goal.returns-then-not-branch-clause-looks
returns-then-not-branch-clause-looks g c =
    looked_on g.S.Store c.args.trees.now.store c.entries.trees.store c.next.new.trees.store
    c.entries.invariant.looks c.in_ok-next.ensures.looks

pub returns-then-not-is_entry-clause-looks : goal.returns-then-not-is_entry-clause-looks
returns-then-not-is_entry-clause-looks g c =
    (looked_on g.S.Store c.args.trees.now.store c.entries.trees.store c.next.new.trees.store
    c.entries.invariant.looks c.in_ok-next.ensures.looks).quiet

pub returns-clause-looks : goal.returns-clause-looks
returns-clause-looks g c = c.entries.invariant.looks.quiet
