use Rattle.book_audit.proofs.Walks.Looks.{passed}
use Rattle.book_audit.proofs.details.check_shown.Goals as goal

pub returns-in_err-wrong-clause-looks : goal.returns-in_err-wrong-clause-looks
returns-in_err-wrong-clause-looks g c =
    passed g.S.Store c.args.trees.now.store c.wrong_with.new.trees.store _ c.from_residual.ensures.0
    c.in_err-wrong.ensures.looks

pub returns-in-None-clause-looks : goal.returns-in-None-clause-looks
returns-in-None-clause-looks g c = c.in_ok-wrong.ensures.looks

pub returns-in-Some-clause-looks : goal.returns-in-Some-clause-looks
returns-in-Some-clause-looks g c = c.in_ok-wrong.ensures.looks.quiet
