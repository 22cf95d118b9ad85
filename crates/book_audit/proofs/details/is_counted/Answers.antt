use Rattle.book_audit.proofs.Walks.Looks.{passed}
use Rattle.book_audit.proofs.details.is_counted.Goals as goal

pub returns-in_err-counted-clause-looks : goal.returns-in_err-counted-clause-looks
returns-in_err-counted-clause-looks g c =
    passed g.S.Store c.args.trees.now.store c.past_in.new.trees.store _ c.from_residual.ensures.0
    c.in_err-counted.ensures.looks

pub returns-in-Some-clause-looks : goal.returns-in-Some-clause-looks
returns-in-Some-clause-looks g c = c.in_ok-counted.ensures.looks

pub returns-in-None-clause-looks : goal.returns-in-None-clause-looks
returns-in-None-clause-looks g c = c.in_ok-counted.ensures.looks
