use Rattle.std.proofs.Common.{◌≡◌, ◌∙◌, ◌++◌, ◌∷◌, [], ℕ, ℤ, Bool, List, length, map, ap, arith}
use Rattle.std.proofs.Common.{length-append, refl, subst, sym}
use Rattle.std.proofs.lemmas.List.{map-append}
use Rattle.sqlite_trees.specs.Tree.{Trees}
use Rattle.sqlite_trees.specs.View.{IsClean}
use Rattle.sqlite_trees.proofs.ListLemmas.{all-append}
use Rattle.sqlite_value.specs.Order.{Row}
use Rattle.tree_tables.specs.Columns.{line_columns}
use Rattle.book_audit.specs.Lines.{IsLateLine, line_entry}
use Rattle.book_audit.specs.Looks.{IsLook}
use Rattle.book_audit.specs.Walks.{AreRising, HasWalked}
use Rattle.book_audit.specs.declared.finding.Tree.TheVariants.{Lines}
use Rattle.book_audit.proofs.Walks.Looks.{looked_on, nothing, passed, stopped_on}
use Rattle.book_audit.proofs.Walks.Steps.{look_back, read_all, read_on, trees_stay}
use Rattle.book_audit.proofs.lines.check_lines.Goals as goal

pub lines-init : goal.lines-init
lines-init g c = record {
  tree = c.begin.ensures.tree;
  looks = nothing g.S.Store c.args.trees.now.store;
  read = λ clean. (
    [],
    c.begin.ensures.start ((g.S.Store.view c.args.trees.now.store).trees 5),
    refl,
    tt,
  );
}

pub lines-preserved : goal.lines-preserved
lines-preserved g c =
    let start = c.args.trees.now.store in
    let mid = c.lines.trees.store in
    let next = c.next.new.trees.store in
    let new = c.check_line.new.trees.store in
    let so_far = c.lines.invariant in
    let row : Row = c.next.new.self.row in
    let entry : (ℕ × List ℕ) × Bool = line_entry c.in-Ok.line in
    let is : row ≡ line_columns entry = sym c.row.ensures ∙ c.in-Ok.ensures.read in
    let call : IsLook g.S.Store mid next = c.in_ok-next.ensures.looks in
    let check : IsLook g.S.Store next new = c.in_ok-check_line.ensures.looks in
    let both : IsLook g.S.Store start next = looked_on g.S.Store start mid next so_far.looks call in
    let closes : List ℤ = c.args.rulings.now.closes.items in
    record {
      tree = c.next.ensures.tree ∙ so_far.tree;
      looks = looked_on g.S.Store start next new both check;
      read = λ clean.
          let after : IsClean (g.S.Store.view next) = look_back g.S.Store next new check.same clean in
          let read = so_far.read (look_back g.S.Store mid next call.same after) in
          let long = length-append read.0 (entry ∷ []) in
          let so_many : c.lines.count ≡ length read.0 = read.2 in
          let late : IsLateLine ((g.S.Store.view start).trees 3) closes entry =
          subst (λ (all : Trees). IsLateLine (all 3) closes entry)
          (trees_stay g.S.Store start next both.same after) (c.in_ok-check_line.ensures.late clean) in (
            read.0 ++ entry ∷ [],
            subst (HasWalked Lines c.next.new.self.key ((g.S.Store.view start).trees 5))
                (ap (λ (r : Row). map line_columns read.0 ++ r ∷ []) is
                ∙ sym (map-append line_columns read.0 (entry ∷ [])))
                (read_on g.S.Store start mid next Lines c.lines.walk c.next.new.self
                c.in_ok-next.field-0 so_far.tree so_far.looks.same call.same c.in_ok-next.ensures.next
                (λ back. let read = so_far.read back in (map line_columns read.0, read.1)) after
                c.if-not-branch.false),
            omega (arith, so_many, long),
            all-append (IsLateLine ((g.S.Store.view start).trees 3) closes) read.0 (entry ∷ [])
                read.3 (late, tt),
          );
    }

-- all rows are those of lines where there are no more
pub returns-then-not-branch-clause-lines : goal.returns-then-not-branch-clause-lines
returns-then-not-branch-clause-lines g c clean =
    let start = c.args.trees.now.store in
    let mid = c.lines.trees.store in
    let next = c.next.new.trees.store in
    let so_far = c.lines.invariant in
    let call : IsLook g.S.Store mid next = c.in_ok-next.ensures.looks in
    let back : IsClean (g.S.Store.view mid) = look_back g.S.Store mid next call.same clean in
    let read = so_far.read back in
    let all = read_all g.S.Store start mid next Lines c.lines.walk c.next.new.self c.in_ok-next.field-0
    so_far.tree so_far.looks.same call.same c.in_ok-next.ensures.next
    (λ back. let read = so_far.read back in (map line_columns read.0, read.1)) clean c.if-not-branch.true in
    record {
      lines = read.0;
      are = all;
      rising = subst (AreRising Lines) (sym all) read.1.rising;
      each = read.3;
      counted = read.2;
    }

pub returns-in_err-next-clause-looks : goal.returns-in_err-next-clause-looks
returns-in_err-next-clause-looks g c =
    let start = c.args.trees.now.store in
    let mid = c.lines.trees.store in
    let next = c.next.new.trees.store in
    passed g.S.Store start next _ c.from_residual.ensures.0
    (stopped_on g.S.Store start mid next c.lines.invariant.looks c.in_err-next.ensures.looks)

pub returns-then-not-branch-clause-looks : goal.returns-then-not-branch-clause-looks
returns-then-not-branch-clause-looks g c =
    looked_on g.S.Store c.args.trees.now.store c.lines.trees.store c.next.new.trees.store
    c.lines.invariant.looks c.in_ok-next.ensures.looks

pub returns-in-Err-clause-looks : goal.returns-in-Err-clause-looks
returns-in-Err-clause-looks g c =
    (looked_on g.S.Store c.args.trees.now.store c.lines.trees.store c.next.new.trees.store
    c.lines.invariant.looks c.in_ok-next.ensures.looks).quiet

pub returns-in_err-check_line-clause-looks : goal.returns-in_err-check_line-clause-looks
returns-in_err-check_line-clause-looks g c =
    let start = c.args.trees.now.store in
    let mid = c.lines.trees.store in
    let next = c.next.new.trees.store in
    let new = c.check_line.new.trees.store in
    passed g.S.Store start new _ c.from_residual-in_err-check_line.ensures.0
    (stopped_on g.S.Store start next new
    (looked_on g.S.Store start mid next c.lines.invariant.looks c.in_ok-next.ensures.looks)
    c.in_err-check_line.ensures.looks)

pub returns-clause-looks : goal.returns-clause-looks
returns-clause-looks g c = c.lines.invariant.looks.quiet
