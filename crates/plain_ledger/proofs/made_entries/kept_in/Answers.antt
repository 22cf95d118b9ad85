use Rattle.std.proofs.Common.{ap}
use Rattle.book_model.specs.Journal.{Importing}
use Rattle.book_model.specs.Words.{reading_shown}
use Rattle.plain_ledger.proofs.made_entries.kept_in.Goals as goal

-- it goes on
pub returns-in_ok-more-in-Going : goal.returns-in_ok-more-in-Going
returns-in_ok-more-in-Going c =
    rw c.in-Going.is
    (ap (Importing (reading_shown c.in-Going.reading)) c.in_ok-more-in-Going.ensures)
