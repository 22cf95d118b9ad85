use Rattle.book_audit.proofs.marks.past_in.Goals as goal

pub returns-clause-looks : goal.returns-clause-looks
returns-clause-looks g c = c.past_of.ensures.looks
