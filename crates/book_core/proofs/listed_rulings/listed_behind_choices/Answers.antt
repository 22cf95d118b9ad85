use Rattle.book_core.proofs.listed_rulings.listed_behind_choices.Goals as goal

pub returns-in-Some-clause-stands : goal.returns-in-Some-clause-stands
returns-in-Some-clause-stands c = rw c.in-Some.is c.listed_from_adoption.ensures.stands

pub returns-in-None-clause-stands : goal.returns-in-None-clause-stands
returns-in-None-clause-stands c = rw c.in-None.is c.listed_last.ensures.stands
