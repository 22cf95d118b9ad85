use Rattle.book_files.proofs.releases.in_hand.Goals as goal

pub returns-in-Refused-clause-held : goal.returns-in-Refused-clause-held
returns-in-Refused-clause-held g c = λ made. absurd ((rw c.in-Refused.is at c.requires) made)
