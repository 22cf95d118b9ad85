use Rattle.std.proofs.Common.{◌∙◌, Bool, Some, ap, sym}
use Rattle.book_model.specs.Words.{credit_shown}
use Rattle.book_reports.specs.BillCredits.{credit_if}
use Rattle.book_reports.proofs.bill_credits.credit_of.Goals as goal

-- it is not on the bill
pub returns-then-not-is_billed : goal.returns-then-not-is_billed
returns-then-not-is_billed c =
    let billed = sym c.is_billed.ensures ∙ c.if-not-is_billed.true in
    ap (λ (billed : Bool). credit_if billed (credit_shown c.args.credit.now)) (sym billed)

-- or it is
pub returns : goal.returns
returns c =
    let billed = sym c.is_billed.ensures ∙ c.if-not-is_billed.false in
    ap Some c.in_ok-copy.ensures
    ∙ ap (λ (billed : Bool). credit_if billed (credit_shown c.args.credit.now)) (sym billed)
