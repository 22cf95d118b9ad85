use Rattle.book_laws.proofs.KeptLemmas.{tariffs_read_kept}
use Rattle.book_laws.proofs.details.tariffs_read_kept.Goals as goal

pub returns : goal.returns
returns c = tariffs_read_kept
