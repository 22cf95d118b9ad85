use Rattle.book_audit.proofs.Walks.Looks.{nothing, passed}
use Rattle.book_audit.proofs.trees.Trees.has_number.Goals as goal

pub returns-in_err-number_key-clause-looks : goal.returns-in_err-number_key-clause-looks
returns-in_err-number_key-clause-looks g c =
    let start = c.args.self.now.store in
    passed g.S.Store start start _ c.from_residual.ensures.0 (nothing g.S.Store start).quiet
