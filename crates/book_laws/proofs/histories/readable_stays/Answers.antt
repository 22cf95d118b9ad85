use Rattle.table_model.proofs.ReadableStays.{readable_stays}
use Rattle.book_laws.proofs.histories.readable_stays.Goals as goal

pub returns : goal.returns
returns c = readable_stays
