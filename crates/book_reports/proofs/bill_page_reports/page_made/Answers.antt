use Rattle.std.proofs.Common.{refl, rules}
use Rattle.book_reports.specs.BillPages.{bill_page_in}
use Rattle.book_reports.proofs.MadeLemmas.{call_made}
use Rattle.book_reports.proofs.bill_page_reports.page_made.Goals as goal

pub returns : goal.returns
returns g c =
    call_made (bill_page_in c.args.period c.args.centre) (λ book. refl) c.gathered.ensures.bill
    c.made_of.ensures λ found page made. search rules
