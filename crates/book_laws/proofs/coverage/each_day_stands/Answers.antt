use Rattle.book_laws.proofs.CoverageLemmas.{each_day_stands}
use Rattle.book_laws.proofs.coverage.each_day_stands.Goals as goal

pub returns : goal.returns
returns c = each_day_stands
