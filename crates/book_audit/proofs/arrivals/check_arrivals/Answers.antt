use Rattle.std.proofs.Common.{ℕ, List, subst}
use Rattle.sqlite_trees.specs.Tree.{Trees}
use Rattle.sqlite_trees.specs.View.{IsClean}
use Rattle.book_audit.specs.Looks.{IsLook}
use Rattle.book_audit.specs.SoundTrees.{AreHeld}
use Rattle.book_audit.proofs.Walks.Looks.{looked_on, passed, stopped_on}
use Rattle.book_audit.proofs.Walks.Steps.{look_back, trees_stay}
use Rattle.book_audit.proofs.arrivals.check_arrivals.Goals as goal

pub returns-clause-records : goal.returns-clause-records
returns-clause-records g c clean =
    let start = c.args.trees.now.store in
    let mid = c.read_journal.new.trees.store in
    let new = c.check_records.new.trees.store in
    let first : IsLook g.S.Store start mid = c.in_ok-due.ensures.looks in
    let second : IsLook g.S.Store mid new = c.in_ok-held.ensures.looks in
    let back : IsClean (g.S.Store.view mid) = look_back g.S.Store mid new second.same clean in
    let due : List ℕ = c.in_ok-due.due.left.items in
    let left : List ℕ = c.check_records.new.due.left.items in
    record {
      due = due;
      left = left;
      entered = c.in_ok-due.ensures.entered back;
      held = subst (λ (all : Trees). AreHeld all c.args.rulings.now c.in_ok-held.held.records
          c.args.places.now.rows.entries c.check_records.new.places.rows.entries due left)
          (trees_stay g.S.Store start mid first.same back) (c.in_ok-held.ensures.records clean);
      there = c.in_ok-check_all_came.ensures;
    }

pub returns-in_err-due-clause-looks : goal.returns-in_err-due-clause-looks
returns-in_err-due-clause-looks g c =
    passed g.S.Store c.args.trees.now.store c.read_journal.new.trees.store _ c.from_residual.ensures.0
    c.in_err-due.ensures.looks

pub returns-in_err-held-clause-looks : goal.returns-in_err-held-clause-looks
returns-in_err-held-clause-looks g c =
    let start = c.args.trees.now.store in
    let mid = c.read_journal.new.trees.store in
    let new = c.check_records.new.trees.store in
    passed g.S.Store start new _ c.from_residual-in_err-held.ensures.0
    (stopped_on g.S.Store start mid new c.in_ok-due.ensures.looks c.in_err-held.ensures.looks)

pub returns-in_err-check_all_came-clause-looks : goal.returns-in_err-check_all_came-clause-looks
returns-in_err-check_all_came-clause-looks g c =
    let start = c.args.trees.now.store in
    let mid = c.read_journal.new.trees.store in
    let new = c.check_records.new.trees.store in
    passed g.S.Store start new _ c.from_residual-in_err-check_all_came.ensures.0
    (looked_on g.S.Store start mid new c.in_ok-due.ensures.looks c.in_ok-held.ensures.looks).quiet

pub returns-clause-looks : goal.returns-clause-looks
returns-clause-looks g c =
    looked_on g.S.Store c.args.trees.now.store c.read_journal.new.trees.store
    c.check_records.new.trees.store c.in_ok-due.ensures.looks c.in_ok-held.ensures.looks
