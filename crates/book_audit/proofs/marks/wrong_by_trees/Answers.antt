use Rattle.std.proofs.Common.{◌∷◌, [], true, pos, rules, subst}
use Rattle.sqlite_trees.specs.Tree.{Trees}
use Rattle.sqlite_trees.specs.View.{IsClean}
use Rattle.sqlite_value.specs.Order.{Row}
use Rattle.sqlite_value.specs.declared.value.Value.TheVariants.{Blob, Int}
use Rattle.tree_rows.specs.Calls.{OnlyLooks}
use Rattle.tree_rows.specs.Rows.{Finds}
use Rattle.tree_tables.specs.Columns.{flag}
use Rattle.book_audit.specs.Trees.{FindsTwo}
use Rattle.book_audit.proofs.Walks.Looks.{looked_on, passed, stopped_on}
use Rattle.book_audit.proofs.Walks.Steps.{look_back, looks_on, trees_stay}
use Rattle.book_audit.proofs.marks.wrong_by_trees.Goals as goal

pub returns-clause-found : goal.returns-clause-found
returns-clause-found g c clean none =
    let zero = c.args.trees.now.store in
    let one = c.has_identity.new.self.store in
    let two = c.has_mark.new.self.store in
    let three = c.is_shared.new.self.store in
    let stored = c.args.stored.now in
    let identity_row : Row = c.has_identity.new.self.found in
    let mark_row : Row = c.has_mark.new.self.found in
    let mark_key : Row = Int (pos (flag stored.charged)) ∷ Blob stored.identity.items ∷ Blob stored.name ∷ [] in
    let first : OnlyLooks g.S.Store zero one = c.in_ok-has_identity.ensures.looks.same in
    let second : OnlyLooks g.S.Store one two = c.in_ok-has_mark.ensures.looks.same in
    let third : OnlyLooks g.S.Store two three = c.in_ok-is_shared.ensures.looks.same in
    let at_two : IsClean (g.S.Store.view two) = look_back g.S.Store two three third clean in
    let at_one : IsClean (g.S.Store.view one) = look_back g.S.Store one two second at_two in
    let identity : IsClean (g.S.Store.view one) → Finds (Blob stored.identity.items ∷ Blob stored.name ∷ [])
    ((g.S.Store.view zero).trees 6) identity_row true = λ at.
    subst (Finds (Blob stored.identity.items ∷ Blob stored.name ∷ []) ((g.S.Store.view zero).trees 6)
    identity_row) c.if-not-branch.false (c.in_ok-has_identity.ensures.found at) in
    let mark : IsClean (g.S.Store.view two) → Finds mark_key ((g.S.Store.view one).trees 7) mark_row true =
    λ at. subst (Finds mark_key ((g.S.Store.view one).trees 7) mark_row) c.if-not-branch-2.false
    (c.in_ok-has_mark.ensures.found at) in
    record {
      identity = record { row = identity_row; finds = identity at_one };
      mark = record {
        row = mark_row;
        finds = subst (λ (all : Trees). Finds mark_key (all 7) mark_row true)
            (trees_stay g.S.Store zero one first at_one) (mark at_two);
      };
    }

pub returns-clause-charged : goal.returns-clause-charged
returns-clause-charged g c clean none =
    let zero = c.args.trees.now.store in
    let one = c.has_identity.new.self.store in
    let two = c.has_mark.new.self.store in
    let three = c.is_shared.new.self.store in
    let key : Row = Blob c.args.stored.now.identity.items ∷ [] in
    let row : Row = c.is_shared.new.self.found in
    let shared = c.in_ok-is_shared.is_shared in
    let first : OnlyLooks g.S.Store zero one = c.in_ok-has_identity.ensures.looks.same in
    let second : OnlyLooks g.S.Store one two = c.in_ok-has_mark.ensures.looks.same in
    let third : OnlyLooks g.S.Store two three = c.in_ok-is_shared.ensures.looks.same in
    let looked : IsClean (g.S.Store.view three) → FindsTwo key ((g.S.Store.view two).trees 6) row shared =
    λ at. subst (λ bytes. FindsTwo (Blob bytes ∷ []) ((g.S.Store.view two).trees 6) row shared)
    c.deref.ensures.value (c.in_ok-is_shared.ensures.found at) in
    record {
      next = row;
      shared = shared;
      looked = subst (λ (all : Trees). FindsTwo key (all 6) row shared)
          (trees_stay g.S.Store zero two (looks_on g.S.Store zero one two first second)
          (look_back g.S.Store two three third clean)) (looked clean);
      is = search rules;
    }

pub returns-in_err-has_identity-clause-looks : goal.returns-in_err-has_identity-clause-looks
returns-in_err-has_identity-clause-looks g c =
    passed g.S.Store c.args.trees.now.store c.has_identity.new.self.store _
    c.from_residual.ensures.0 c.in_err-has_identity.ensures.looks

pub returns-then-not-branch-clause-looks : goal.returns-then-not-branch-clause-looks
returns-then-not-branch-clause-looks g c = c.in_ok-has_identity.ensures.looks

pub returns-in_err-has_mark-clause-looks : goal.returns-in_err-has_mark-clause-looks
returns-in_err-has_mark-clause-looks g c =
    let zero = c.args.trees.now.store in
    let one = c.has_identity.new.self.store in
    let two = c.has_mark.new.self.store in
    passed g.S.Store zero two _ c.from_residual-in_err-has_mark.ensures.0
    (stopped_on g.S.Store zero one two c.in_ok-has_identity.ensures.looks
    c.in_err-has_mark.ensures.looks)

pub returns-then-not-branch-2-clause-looks : goal.returns-then-not-branch-2-clause-looks
returns-then-not-branch-2-clause-looks g c =
    looked_on g.S.Store c.args.trees.now.store c.has_identity.new.self.store c.has_mark.new.self.store
    c.in_ok-has_identity.ensures.looks c.in_ok-has_mark.ensures.looks

pub returns-in_err-is_shared-clause-looks : goal.returns-in_err-is_shared-clause-looks
returns-in_err-is_shared-clause-looks g c =
    let zero = c.args.trees.now.store in
    let one = c.has_identity.new.self.store in
    let two = c.has_mark.new.self.store in
    let three = c.is_shared.new.self.store in
    passed g.S.Store zero three _ c.from_residual-in_err-is_shared.ensures.0
    (stopped_on g.S.Store zero two three
    (looked_on g.S.Store zero one two c.in_ok-has_identity.ensures.looks c.in_ok-has_mark.ensures.looks)
    c.in_err-is_shared.ensures.looks)

pub returns-then-stored-should_be_charged-clause-looks :
    goal.returns-then-stored-should_be_charged-clause-looks
returns-then-stored-should_be_charged-clause-looks g c =
    let zero = c.args.trees.now.store in
    let one = c.has_identity.new.self.store in
    let two = c.has_mark.new.self.store in
    looked_on g.S.Store zero two c.is_shared.new.self.store
    (looked_on g.S.Store zero one two c.in_ok-has_identity.ensures.looks c.in_ok-has_mark.ensures.looks)
    c.in_ok-is_shared.ensures.looks

pub returns-clause-looks : goal.returns-clause-looks
returns-clause-looks g c =
    let zero = c.args.trees.now.store in
    let one = c.has_identity.new.self.store in
    let two = c.has_mark.new.self.store in
    looked_on g.S.Store zero two c.is_shared.new.self.store
    (looked_on g.S.Store zero one two c.in_ok-has_identity.ensures.looks c.in_ok-has_mark.ensures.looks)
    c.in_ok-is_shared.ensures.looks
