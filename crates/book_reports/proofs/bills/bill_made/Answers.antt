use Rattle.std.proofs.Common.{refl, rules}
use Rattle.book_reports.specs.Bills.{bill_in}
use Rattle.book_reports.proofs.MadeLemmas.{call_made}
use Rattle.book_reports.proofs.bills.bill_made.Goals as goal

pub returns : goal.returns
returns g c =
    call_made (bill_in c.args.form c.args.period c.args.centre) (λ book. refl)
    c.gathered.ensures.bill c.made_of.ensures λ found text made. search rules
