use Rattle.book_audit.proofs.Walks.Looks.{looked_on, passed, stopped_on}
use Rattle.book_audit.proofs.choices.chosen_identity.Goals as goal

pub returns-in_err-identity-clause-looks : goal.returns-in_err-identity-clause-looks
returns-in_err-identity-clause-looks g c =
    passed g.S.Store c.args.trees.now.store c.identity_of.new.self.store _ c.from_residual.ensures.0
    c.in_err-identity.ensures.looks

pub returns-in_default-clause-looks : goal.returns-in_default-clause-looks
returns-in_default-clause-looks g c = c.in_ok-identity.ensures.looks.quiet

pub returns-in_err-is_shared-clause-looks : goal.returns-in_err-is_shared-clause-looks
returns-in_err-is_shared-clause-looks g c =
    let start = c.args.trees.now.store in
    let one = c.identity_of.new.self.store in
    let new = c.is_shared.new.self.store in
    passed g.S.Store start new _ c.from_residual-in_err-is_shared.ensures.0
    (stopped_on g.S.Store start one new c.in_ok-identity.ensures.looks c.in_err-is_shared.ensures.looks)

pub returns-then-not-may_be_chosen-clause-looks : goal.returns-then-not-may_be_chosen-clause-looks
returns-then-not-may_be_chosen-clause-looks g c =
    (looked_on g.S.Store c.args.trees.now.store c.identity_of.new.self.store c.is_shared.new.self.store
    c.in_ok-identity.ensures.looks c.in_ok-is_shared.ensures.looks).quiet

pub returns-clause-looks : goal.returns-clause-looks
returns-clause-looks g c =
    looked_on g.S.Store c.args.trees.now.store c.identity_of.new.self.store c.is_shared.new.self.store
    c.in_ok-identity.ensures.looks c.in_ok-is_shared.ensures.looks
