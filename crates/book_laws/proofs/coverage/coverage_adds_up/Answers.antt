use Rattle.book_laws.proofs.CoverageSums.{coverage_adds_up}
use Rattle.book_laws.proofs.coverage.coverage_adds_up.Goals as goal

pub returns : goal.returns
returns c = coverage_adds_up
