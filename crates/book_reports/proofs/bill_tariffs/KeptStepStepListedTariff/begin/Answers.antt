use Rattle.std.proofs.Common.{subst}
use Rattle.book_reports.specs.BillTariffs.{HasKept}
use Rattle.book_reports.proofs.KeptTariffLemmas.{kept_none}
use Rattle.book_reports.proofs.bill_tariffs.KeptStepStepListedTariff.begin.Goals as goal

pub returns : goal.returns
returns c = subst (HasKept c.new.result) (kept_none c.args.self.now.days) c.new.ensures
