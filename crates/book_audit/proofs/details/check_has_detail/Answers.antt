use Rattle.book_audit.proofs.Walks.Looks.{nothing, passed}
use Rattle.book_audit.proofs.details.check_has_detail.Goals as goal

pub returns-in_err-put_usage-clause-looks : goal.returns-in_err-put_usage-clause-looks
returns-in_err-put_usage-clause-looks g c =
    let start = c.args.trees.now.store in
    passed g.S.Store start start _ c.from_residual.ensures.0 (nothing g.S.Store start).quiet

pub returns-in_err-has_detail-clause-looks : goal.returns-in_err-has_detail-clause-looks
returns-in_err-has_detail-clause-looks g c =
    passed g.S.Store c.args.trees.now.store c.has_detail.new.self.store _
    c.from_residual-in_err-has_detail.ensures.0 c.in_err-has_detail.ensures.looks

pub returns-then-branch-clause-looks : goal.returns-then-branch-clause-looks
returns-then-branch-clause-looks g c = c.in_ok-has_detail.ensures.looks

pub returns-else-branch-clause-looks : goal.returns-else-branch-clause-looks
returns-else-branch-clause-looks g c = c.in_ok-has_detail.ensures.looks.quiet
