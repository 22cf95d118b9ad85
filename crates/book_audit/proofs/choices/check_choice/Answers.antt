use Rattle.book_audit.proofs.Walks.Looks.{looked_on, nothing, passed, stopped_on}
use Rattle.book_audit.proofs.choices.check_choice.Goals as goal

pub returns-in-Some-clause-looks : goal.returns-in-Some-clause-looks
returns-in-Some-clause-looks g c = (nothing g.S.Store c.args.trees.now.store).quiet

pub returns-in_err-identity-clause-looks : goal.returns-in_err-identity-clause-looks
returns-in_err-identity-clause-looks g c =
    passed g.S.Store c.args.trees.now.store c.chosen_identity.new.trees.store _
    c.from_residual.ensures.0 c.in_err-identity.ensures.looks

pub returns-in_err-has_choice_name-clause-looks : goal.returns-in_err-has_choice_name-clause-looks
returns-in_err-has_choice_name-clause-looks g c =
    let start = c.args.trees.now.store in
    let one = c.chosen_identity.new.trees.store in
    let new = c.has_choice_name.new.self.store in
    passed g.S.Store start new _ c.from_residual-in_err-has_choice_name.ensures.0
    (stopped_on g.S.Store start one new c.in_ok-identity.ensures.looks
    c.in_err-has_choice_name.ensures.looks)

pub returns-then-not-branch-clause-looks : goal.returns-then-not-branch-clause-looks
returns-then-not-branch-clause-looks g c =
    (looked_on g.S.Store c.args.trees.now.store c.chosen_identity.new.trees.store
    c.has_choice_name.new.self.store c.in_ok-identity.ensures.looks
    c.in_ok-has_choice_name.ensures.looks).quiet

pub returns-in_err-put-clause-looks : goal.returns-in_err-put-clause-looks
returns-in_err-put-clause-looks g c =
    let start = c.args.trees.now.store in
    let one = c.chosen_identity.new.trees.store in
    let new = c.has_choice_name.new.self.store in
    passed g.S.Store start new _ c.from_residual-in_err-put.ensures.0
    (looked_on g.S.Store start one new c.in_ok-identity.ensures.looks
    c.in_ok-has_choice_name.ensures.looks).quiet

pub returns-clause-looks : goal.returns-clause-looks
returns-clause-looks g c =
    looked_on g.S.Store c.args.trees.now.store c.chosen_identity.new.trees.store
    c.has_choice_name.new.self.store c.in_ok-identity.ensures.looks c.in_ok-has_choice_name.ensures.looks
