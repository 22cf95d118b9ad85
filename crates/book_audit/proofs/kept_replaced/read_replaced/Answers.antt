use Rattle.std.proofs.Common.{◌≡◌, ◌∙◌, ◌+◌, ◌++◌, ◌∷◌, [], List, arith, length, length-append, refl}
use Rattle.std.proofs.Common.{rules, subst}
use Rattle.sqlite_trees.specs.View.{IsClean}
use Rattle.sqlite_trees.proofs.ListLemmas.{all-append}
use Rattle.sqlite_value.specs.Order.{Row}
use Rattle.book_model.specs.Words.{Replaced}
use Rattle.consistent_tables.specs.Consistent.{IsOwnReplaced}
use Rattle.book_audit.specs.KeptRulings.{replaced_rows, IsReplacedRow}
use Rattle.book_audit.specs.Looks.{IsLook}
use Rattle.book_audit.specs.Walks.{HasWalked}
use Rattle.book_audit.specs.declared.finding.Tree.TheVariants as kept
use Rattle.book_audit.proofs.Rows.KeptRulings.{replaced_pushed}
use Rattle.book_audit.proofs.Walks.Looks.{looked_on, nothing, passed, stopped_on}
use Rattle.book_audit.proofs.Walks.Steps.{look_back, read_all, read_on}
use Rattle.book_audit.proofs.kept_replaced.read_replaced.Goals as goal

pub tariffs-init : goal.tariffs-init
tariffs-init g c = record {
  tree = c.begin.ensures.tree;
  looks = nothing g.S.Store c.args.trees.now.store;
  few = omega arith;
  read = λ clean. (
    [],
    c.begin.ensures.start ((g.S.Store.view c.args.trees.now.store).trees 12),
    tt,
    refl,
  );
}

-- one row more
pub tariffs-preserved : goal.tariffs-preserved
tariffs-preserved g c =
    let start = c.args.trees.now.store in
    let mid = c.tariffs.trees.store in
    let new = c.next.new.trees.store in
    let so_far = c.tariffs.invariant in
    let count = c.tariffs.count in
    let row : Row = c.next.new.self.row in
    let call : IsLook g.S.Store mid new = c.in_ok-next.ensures.looks in
    let its : IsReplacedRow count c.args.open_period row = search rules in
    let few = its.few in
    record {
      tree = c.next.ensures.tree ∙ so_far.tree;
      looks = looked_on g.S.Store start mid new so_far.looks call;
      few = omega (arith, few);
      read = λ clean.
          let read = so_far.read (look_back g.S.Store mid new call.same clean) in
          let all : List Replaced = read.0 in
          let counted = read.3 in
          let long = length-append all (its.replaced ∷ []) in (
            all ++ its.replaced ∷ [],
            subst (HasWalked kept.Replaced c.next.new.self.key ((g.S.Store.view start).trees 12))
                (replaced_pushed all its.replaced count row its.is counted)
                (read_on g.S.Store start mid new kept.Replaced c.tariffs.walk c.next.new.self
                c.in_ok-next.field-0 so_far.tree so_far.looks.same call.same
                c.in_ok-next.ensures.next
                (λ back. (replaced_rows (so_far.read back).0, (so_far.read back).1)) clean
                c.if-not-branch.false),
            all-append (IsOwnReplaced c.args.open_period) all (its.replaced ∷ []) read.2 (its.own, tt),
            omega (arith, counted, long),
          );
    }

-- all of them where there are no more
pub returns-then-not-branch-clause-replaced : goal.returns-then-not-branch-clause-replaced
returns-then-not-branch-clause-replaced g c clean =
    let start = c.args.trees.now.store in
    let mid = c.tariffs.trees.store in
    let next = c.next.new.trees.store in
    let so_far = c.tariffs.invariant in
    let call : IsLook g.S.Store mid next = c.in_ok-next.ensures.looks in
    let read = so_far.read (look_back g.S.Store mid next call.same clean) in
    let counted = read.3 in
    let few = so_far.few in
    record {
      replaced = read.0;
      are = read_all g.S.Store start mid next kept.Replaced c.tariffs.walk c.next.new.self
          c.in_ok-next.field-0 so_far.tree so_far.looks.same call.same c.in_ok-next.ensures.next
          (λ back. (replaced_rows (so_far.read back).0, (so_far.read back).1)) clean c.if-not-branch.true;
      own = read.2;
      few = omega (arith, counted, few);
    }

pub returns-in_err-next-clause-looks : goal.returns-in_err-next-clause-looks
returns-in_err-next-clause-looks g c =
    let start = c.args.trees.now.store in
    let mid = c.tariffs.trees.store in
    let next = c.next.new.trees.store in
    passed g.S.Store start next _ c.from_residual.ensures.0
    (stopped_on g.S.Store start mid next c.tariffs.invariant.looks c.in_err-next.ensures.looks)

pub returns-then-not-branch-clause-looks : goal.returns-then-not-branch-clause-looks
returns-then-not-branch-clause-looks g c =
    looked_on g.S.Store c.args.trees.now.store c.tariffs.trees.store c.next.new.trees.store
    c.tariffs.invariant.looks c.in_ok-next.ensures.looks

pub returns-in_err-check_replaced-clause-looks : goal.returns-in_err-check_replaced-clause-looks
returns-in_err-check_replaced-clause-looks g c =
    let start = c.args.trees.now.store in
    let next = c.next.new.trees.store in
    passed g.S.Store start next _ c.from_residual-in_err-check_replaced.ensures.0
    (looked_on g.S.Store start c.tariffs.trees.store next c.tariffs.invariant.looks
    c.in_ok-next.ensures.looks).quiet

pub returns-clause-looks : goal.returns-clause-looks
returns-clause-looks g c = c.tariffs.invariant.looks.quiet
