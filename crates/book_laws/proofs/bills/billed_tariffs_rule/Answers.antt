use Rattle.book_laws.proofs.RulingTariffs.{billed_tariffs_rule}
use Rattle.book_laws.proofs.bills.billed_tariffs_rule.Goals as goal

pub returns : goal.returns
returns c = billed_tariffs_rule
