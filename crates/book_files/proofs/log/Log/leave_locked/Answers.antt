use Rattle.book_files.proofs.log.Log.leave_locked.Goals as goal

pub returns-then-looks_short-clause-short : goal.returns-then-looks_short-clause-short
returns-then-looks_short-clause-short g c = λ none. c.looks_short.ensures c.if-looks_short.true
