use Rattle.book_laws.proofs.ClosedTexts.{books_keep_texts, closed_texts_stay}
use Rattle.book_laws.proofs.histories.closed_texts_stay.Goals as goal

pub returns : goal.returns
returns c = record { history = closed_texts_stay; book = books_keep_texts }
