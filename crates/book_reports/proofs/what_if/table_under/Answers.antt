use Rattle.std.proofs.Common.{refl, rules}
use Rattle.book_reports.specs.WhatIfTexts.{table_shown}
use Rattle.book_reports.proofs.MadeLemmas.{call_made}
use Rattle.book_reports.proofs.what_if.table_under.Goals as goal

pub returns : goal.returns
returns g c =
    call_made (table_shown c.args.centre c.args.period) (λ book. refl) c.charges_under.ensures.rows
    c.made_of.ensures λ rows table made. search rules
