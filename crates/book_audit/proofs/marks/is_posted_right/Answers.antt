use Rattle.book_audit.proofs.Walks.Looks.{passed}
use Rattle.book_audit.proofs.marks.is_posted_right.Goals as goal

pub returns-in_err-line-clause-looks : goal.returns-in_err-line-clause-looks
returns-in_err-line-clause-looks g c =
    passed g.S.Store c.args.trees.now.store c.line_of.new.self.store _ c.from_residual.ensures.0
    c.in_err-line.ensures.looks

pub returns-clause-looks : goal.returns-clause-looks
returns-clause-looks g c = c.in_ok-line.ensures.looks
