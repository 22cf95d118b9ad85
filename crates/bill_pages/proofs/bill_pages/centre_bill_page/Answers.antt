use Rattle.bill_pages.proofs.AlikeLemmas.{sheets_are_shown_alike}
use Rattle.bill_pages.proofs.bill_pages.centre_bill_page.Goals as goal

pub returns-clause-alike : goal.returns-clause-alike
returns-clause-alike c = sheets_are_shown_alike
