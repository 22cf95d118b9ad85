use Rattle.std.proofs.Common.{◌∙◌, ◌∷◌, [], List, rules}
use Rattle.sqlite_trees.specs.View.{IsClean}
use Rattle.sqlite_value.specs.Order.{Row}
use Rattle.book_audit.specs.Looks.{IsLook}
use Rattle.book_audit.specs.Walks.{HasWalked}
use Rattle.book_audit.specs.declared.finding.Tree.TheVariants.{Book}
use Rattle.book_audit.proofs.Walks.Looks.{looked_on, passed, stopped_on}
use Rattle.book_audit.proofs.Walks.Steps.{look_back, no_look, read_all, read_on}
use Rattle.book_audit.proofs.rulings.read_book.Goals as goal

pub returns-clause-book : goal.returns-clause-book
returns-clause-book g c clean =
    let start = c.args.trees.now.store in
    let next = c.next.new.trees.store in
    let last = c.next-2.new.trees.store in
    let row : Row = c.next.new.self.row in
    let rows : List Row = (g.S.Store.view start).trees 0 in
    let first : IsLook g.S.Store start next = c.in_ok-next.ensures.looks in
    let second : IsLook g.S.Store next last = c.in_ok-next-2.ensures.looks in
    let after : IsClean (g.S.Store.view next) = look_back g.S.Store next last second.same clean in
    let one : HasWalked Book c.next.new.self.key rows (row ∷ []) =
    read_on g.S.Store start start next Book c.begin.new.self c.next.new.self c.in_ok-next.field-0
    c.begin.ensures.tree (no_look g.S.Store start) first.same c.in_ok-next.ensures.next
    (λ back. ([], c.begin.ensures.start rows)) after c.if-not-branch.false in
    record {
      row = row;
      one = read_all g.S.Store start next last Book c.next.new.self c.next-2.new.self
          c.in_ok-next-2.field-0 (c.next.ensures.tree ∙ c.begin.ensures.tree) first.same second.same
          c.in_ok-next-2.ensures.next (λ back. (row ∷ [], one)) clean c.if-branch.false;
      is = search rules;
    }

pub returns-clause-looks : goal.returns-clause-looks
returns-clause-looks g c =
    looked_on g.S.Store c.args.trees.now.store c.next.new.trees.store c.next-2.new.trees.store
    c.in_ok-next.ensures.looks c.in_ok-next-2.ensures.looks

pub returns-in_err-next-clause-looks : goal.returns-in_err-next-clause-looks
returns-in_err-next-clause-looks g c =
    passed g.S.Store c.args.trees.now.store c.next.new.trees.store _ c.from_residual.ensures.0
    c.in_err-next.ensures.looks

pub returns-then-not-branch-clause-looks : goal.returns-then-not-branch-clause-looks
returns-then-not-branch-clause-looks g c = c.in_ok-next.ensures.looks.quiet

pub returns-in-Err-clause-looks : goal.returns-in-Err-clause-looks
returns-in-Err-clause-looks g c = c.in_ok-next.ensures.looks.quiet

pub returns-in_default-clause-looks : goal.returns-in_default-clause-looks
returns-in_default-clause-looks g c = c.in_ok-next.ensures.looks.quiet

pub returns-in_err-next-2-clause-looks : goal.returns-in_err-next-2-clause-looks
returns-in_err-next-2-clause-looks g c =
    let start = c.args.trees.now.store in
    let next = c.next.new.trees.store in
    let last = c.next-2.new.trees.store in
    passed g.S.Store start last _ c.from_residual-in_err-next-2.ensures.0
    (stopped_on g.S.Store start next last c.in_ok-next.ensures.looks c.in_err-next-2.ensures.looks)

pub returns-then-branch-clause-looks : goal.returns-then-branch-clause-looks
returns-then-branch-clause-looks g c =
    (looked_on g.S.Store c.args.trees.now.store c.next.new.trees.store c.next-2.new.trees.store
    c.in_ok-next.ensures.looks c.in_ok-next-2.ensures.looks).quiet
