use Rattle.std.proofs.Common.{◌∙◌, ◌++◌, [], ◌∷◌, ap, map, sym}
use Rattle.std.specs.List.{cons_option}
use Rattle.book_model.proofs.Std.{filter_map-append}
use Rattle.book_model.specs.Words.{credit_shown}
use Rattle.book_reports.specs.BillCredits.{credit_of, credits_of}
use Rattle.book_reports.proofs.Words.{map_push}
use Rattle.book_reports.proofs.bill_credits.CreditStepStepCredit.add.Goals as goal

-- with one more credit
pub returns-clause-added : goal.returns-clause-added
returns-clause-added c read is =
    let number = c.args.self.now.period in
    let named = c.args.self.now.centre in
    let credit = c.args.credit.now in
    c.in_ok-push_found.ensures
    ∙ (λ i. is i ++ cons_option (c.in_ok-found.ensures i) [])
    ∙ sym (filter_map-append (credit_of number named) (map credit_shown read)
    (credit_shown credit ∷ []))
    ∙ ap (credits_of number named) (map_push credit_shown read credit)
