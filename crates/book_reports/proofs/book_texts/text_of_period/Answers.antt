use Rattle.book_reports.proofs.book_texts.text_of_period.Goals as goal

pub returns-in-Some : goal.returns-in-Some
returns-in-Some g c = rw c.in-Some.is c.centre_text.ensures

-- the whole office
pub returns-in-None : goal.returns-in-None
returns-in-None g c = rw c.in-None.is c.period_text.ensures
