use Rattle.book_audit.proofs.trees.Trees.finds.Goals as goal

pub returns-in-Ok-clause-looks : goal.returns-in-Ok-clause-looks
returns-in-Ok-clause-looks g c =
    record { same = c.in-Ok.ensures.same; quiet = c.find_row.ensures.quiet }

pub returns-in-Err-clause-looks : goal.returns-in-Err-clause-looks
returns-in-Err-clause-looks g c = c.find_row.ensures.quiet
