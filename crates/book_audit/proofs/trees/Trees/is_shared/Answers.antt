use Rattle.book_audit.proofs.Walks.Looks.{nothing, passed}
use Rattle.book_audit.proofs.trees.Trees.is_shared.Goals as goal

pub returns-in_err-bytes_key-clause-looks : goal.returns-in_err-bytes_key-clause-looks
returns-in_err-bytes_key-clause-looks g c =
    let start = c.args.self.now.store in
    passed g.S.Store start start _ c.from_residual.ensures.0 (nothing g.S.Store start).quiet

pub returns-then-not-there-clause-looks : goal.returns-then-not-there-clause-looks
returns-then-not-there-clause-looks g c =
    record { same = c.in-Ok.ensures.same; quiet = c.first_after.ensures.quiet }

pub returns-clause-looks : goal.returns-clause-looks
returns-clause-looks g c =
    record { same = c.in-Ok.ensures.same; quiet = c.first_after.ensures.quiet }

pub returns-in-Err-clause-looks : goal.returns-in-Err-clause-looks
returns-in-Err-clause-looks g c = c.first_after.ensures.quiet
