use Rattle.book_reports.proofs.KnownCentreLemmas.{named_none}
use Rattle.book_reports.proofs.known_centres.CentreStepStepListedTariff.begin.Goals as goal

pub returns : goal.returns
returns c = named_none c.args.self.now.centre c.args.self.now.days.through
