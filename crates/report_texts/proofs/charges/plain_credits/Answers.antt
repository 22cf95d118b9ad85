use Rattle.std.proofs.Common.{◌∙◌, ap, map, sym, take_all}
use Rattle.book_model.proofs.Std.{map-map}
use Rattle.book_model.specs.declared.bill.Credit.{Credit}
use Rattle.book_model.specs.Words.{credit_shown}
use Rattle.report_texts.specs.Charges.{plain_credit}
use Rattle.report_texts.proofs.charges.plain_credits.Goals as goal

-- these are all
pub returns : goal.returns
returns c =
    let credits = c.args.credits.now in
    c.loop-credit.invariant
    ∙ ap (map (λ (credit : Credit). plain_credit (credit_shown credit)))
    (take_all c.loop-credit.credit-index credits c.loop-credit-test.false)
    ∙ sym (map-map plain_credit credit_shown credits)
