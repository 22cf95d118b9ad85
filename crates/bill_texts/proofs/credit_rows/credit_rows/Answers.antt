use Rattle.std.proofs.Common.{◌∙◌, ap, map, sym, take_all}
use Rattle.book_model.proofs.Std.{map-map}
use Rattle.book_model.specs.declared.bill.Credit.{Credit}
use Rattle.book_model.specs.Words.{credit_shown}
use Rattle.bill_texts.specs.CreditRows.{credit_fields}
use Rattle.bill_texts.proofs.credit_rows.credit_rows.Goals as goal

-- these are the rows of all
pub returns : goal.returns
returns c =
    let credits = c.args.credits.now in
    c.loop-credit.invariant
    ∙ ap (map (λ (credit : Credit). credit_fields (credit_shown credit)))
    (take_all c.loop-credit.credit-index credits c.loop-credit-test.false)
    ∙ sym (map-map credit_fields credit_shown credits)
