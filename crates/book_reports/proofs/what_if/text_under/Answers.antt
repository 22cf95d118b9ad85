use Rattle.std.proofs.Common.{refl, rules}
use Rattle.book_model.specs.Words.{charges_outcome}
use Rattle.book_reports.specs.WhatIfTexts.{text_shown}
use Rattle.book_reports.proofs.WhatIfLemmas.{both_made, first_failed}
use Rattle.book_reports.proofs.what_if.text_under.Goals as goal

pub returns-in_err-rows : goal.returns-in_err-rows
returns-in_err-rows g c =
    first_failed (charges_outcome c.args.period)
    (text_shown c.args.centre c.args.period c.args.digest.now c.args.through)
    c.from_residual.result c.from_residual.ensures.1 (λ book. refl) c.in_err-rows.ensures.rows

-- the rows under the other tariff were read, and then those that are charged
pub returns : goal.returns
returns g c =
    both_made (charges_outcome c.args.period)
    (text_shown c.args.centre c.args.period c.args.digest.now c.args.through) (λ book. refl)
    (λ book. refl) c.in_ok-rows.ensures.rows c.charges.ensures.rows c.made_of.ensures
    λ charged text made. search rules
