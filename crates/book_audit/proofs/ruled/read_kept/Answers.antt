use Rattle.std.proofs.Common.{subst}
use Rattle.sqlite_trees.specs.Tree.{Trees}
use Rattle.sqlite_trees.specs.View.{IsClean}
use Rattle.tree_rows.specs.Calls.{OnlyLooks}
use Rattle.book_audit.specs.KeptRulings.{AreCredits}
use Rattle.book_audit.proofs.Walks.Looks.{looked_on, passed, stopped_on}
use Rattle.book_audit.proofs.Walks.Steps.{look_back, trees_stay}
use Rattle.book_audit.proofs.ruled.read_kept.Goals as goal

pub returns-clause-kept : goal.returns-clause-kept
returns-clause-kept g c clean =
    let start = c.args.trees.now.store in
    let one = c.read_replaced.new.trees.store in
    let two = c.read_credits.new.trees.store in
    let first : OnlyLooks g.S.Store start one = c.in_ok-read_replaced.ensures.looks.same in
    let second : OnlyLooks g.S.Store one two = c.in_ok-read_credits.ensures.looks.same in
    let at_one : IsClean (g.S.Store.view one) = look_back g.S.Store one two second clean in
    record {
      replaced = c.in_ok-read_replaced.ensures.replaced at_one;
      credits = subst (λ (all : Trees). AreCredits c.args.open_period (all 11))
          (trees_stay g.S.Store start one first at_one)
          (c.in_ok-read_credits.ensures.credits clean);
    }

pub returns-in_err-read_replaced-clause-looks : goal.returns-in_err-read_replaced-clause-looks
returns-in_err-read_replaced-clause-looks g c =
    passed g.S.Store c.args.trees.now.store c.read_replaced.new.trees.store _
    c.from_residual.ensures.0 c.in_err-read_replaced.ensures.looks

pub returns-in_err-read_credits-clause-looks : goal.returns-in_err-read_credits-clause-looks
returns-in_err-read_credits-clause-looks g c =
    let start = c.args.trees.now.store in
    let one = c.read_replaced.new.trees.store in
    let two = c.read_credits.new.trees.store in
    passed g.S.Store start two _ c.from_residual-in_err-read_credits.ensures.0
    (stopped_on g.S.Store start one two c.in_ok-read_replaced.ensures.looks
    c.in_err-read_credits.ensures.looks)

pub returns-clause-looks : goal.returns-clause-looks
returns-clause-looks g c =
    looked_on g.S.Store c.args.trees.now.store c.read_replaced.new.trees.store
    c.read_credits.new.trees.store c.in_ok-read_replaced.ensures.looks
    c.in_ok-read_credits.ensures.looks
