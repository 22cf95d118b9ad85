use Rattle.book_laws.proofs.BilledTariffs.{billed_tariffs_price}
use Rattle.book_laws.proofs.bills.billed_tariffs_price.Goals as goal

pub returns : goal.returns
returns c = billed_tariffs_price
