use Rattle.std.proofs.Common.{◌≡◌, ◌∙◌, ◌+◌, ◌++◌, ◌∷◌, [], List, arith, length, length-append, refl}
use Rattle.std.proofs.Common.{rules, subst}
use Rattle.sqlite_trees.specs.View.{IsClean}
use Rattle.sqlite_trees.proofs.ListLemmas.{all-append}
use Rattle.sqlite_value.specs.Order.{Row}
use Rattle.book_model.specs.Words.{Credit}
use Rattle.consistent_tables.specs.Consistent.{IsOwnCredit}
use Rattle.book_audit.specs.KeptRulings.{credit_rows, IsCreditRow}
use Rattle.book_audit.specs.Looks.{IsLook}
use Rattle.book_audit.specs.Walks.{HasWalked}
use Rattle.book_audit.specs.declared.finding.Tree.TheVariants.{Credits}
use Rattle.book_audit.proofs.Rows.KeptRulings.{credits_pushed}
use Rattle.book_audit.proofs.Walks.Looks.{looked_on, nothing, passed, stopped_on}
use Rattle.book_audit.proofs.Walks.Steps.{look_back, read_all, read_on}
use Rattle.book_audit.proofs.kept_credits.read_credits.Goals as goal

pub credits-init : goal.credits-init
credits-init g c = record {
  tree = c.begin.ensures.tree;
  looks = nothing g.S.Store c.args.trees.now.store;
  few = omega arith;
  read = λ clean. (
    [],
    c.begin.ensures.start ((g.S.Store.view c.args.trees.now.store).trees 11),
    tt,
    refl,
  );
}

-- one row more
pub credits-preserved : goal.credits-preserved
credits-preserved g c =
    let start = c.args.trees.now.store in
    let mid = c.credits.trees.store in
    let new = c.next.new.trees.store in
    let so_far = c.credits.invariant in
    let count = c.credits.count in
    let row : Row = c.next.new.self.row in
    let call : IsLook g.S.Store mid new = c.in_ok-next.ensures.looks in
    let its : IsCreditRow count c.args.open_period row = search rules in
    let few = its.few in
    record {
      tree = c.next.ensures.tree ∙ so_far.tree;
      looks = looked_on g.S.Store start mid new so_far.looks call;
      few = omega (arith, few);
      read = λ clean.
          let read = so_far.read (look_back g.S.Store mid new call.same clean) in
          let all : List Credit = read.0 in
          let counted = read.3 in
          let long = length-append all (its.credit ∷ []) in (
            all ++ its.credit ∷ [],
            subst (HasWalked Credits c.next.new.self.key ((g.S.Store.view start).trees 11))
                (credits_pushed all its.credit count row its.is counted)
                (read_on g.S.Store start mid new Credits c.credits.walk c.next.new.self
                c.in_ok-next.field-0 so_far.tree so_far.looks.same call.same
                c.in_ok-next.ensures.next
                (λ back. (credit_rows (so_far.read back).0, (so_far.read back).1)) clean
                c.if-not-branch.false),
            all-append (IsOwnCredit c.args.open_period) all (its.credit ∷ []) read.2 (its.own, tt),
            omega (arith, counted, long),
          );
    }

-- all of them where there are no more
pub returns-then-not-branch-clause-credits : goal.returns-then-not-branch-clause-credits
returns-then-not-branch-clause-credits g c clean =
    let start = c.args.trees.now.store in
    let mid = c.credits.trees.store in
    let next = c.next.new.trees.store in
    let so_far = c.credits.invariant in
    let call : IsLook g.S.Store mid next = c.in_ok-next.ensures.looks in
    let read = so_far.read (look_back g.S.Store mid next call.same clean) in
    let counted = read.3 in
    let few = so_far.few in
    record {
      credits = read.0;
      are = read_all g.S.Store start mid next Credits c.credits.walk c.next.new.self
          c.in_ok-next.field-0 so_far.tree so_far.looks.same call.same c.in_ok-next.ensures.next
          (λ back. (credit_rows (so_far.read back).0, (so_far.read back).1)) clean c.if-not-branch.true;
      own = read.2;
      few = omega (arith, counted, few);
    }

pub returns-in_err-next-clause-looks : goal.returns-in_err-next-clause-looks
returns-in_err-next-clause-looks g c =
    let start = c.args.trees.now.store in
    let mid = c.credits.trees.store in
    let next = c.next.new.trees.store in
    passed g.S.Store start next _ c.from_residual.ensures.0
    (stopped_on g.S.Store start mid next c.credits.invariant.looks c.in_err-next.ensures.looks)

pub returns-then-not-branch-clause-looks : goal.returns-then-not-branch-clause-looks
returns-then-not-branch-clause-looks g c =
    looked_on g.S.Store c.args.trees.now.store c.credits.trees.store c.next.new.trees.store
    c.credits.invariant.looks c.in_ok-next.ensures.looks

pub returns-in_err-check_credit-clause-looks : goal.returns-in_err-check_credit-clause-looks
returns-in_err-check_credit-clause-looks g c =
    let start = c.args.trees.now.store in
    let next = c.next.new.trees.store in
    passed g.S.Store start next _ c.from_residual-in_err-check_credit.ensures.0
    (looked_on g.S.Store start c.credits.trees.store next c.credits.invariant.looks
    c.in_ok-next.ensures.looks).quiet

pub returns-clause-looks : goal.returns-clause-looks
returns-clause-looks g c = c.credits.invariant.looks.quiet
