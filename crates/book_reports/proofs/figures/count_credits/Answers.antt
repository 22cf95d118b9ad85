use Rattle.std.proofs.Common.{◌∙◌, List, None, Ok, ap, length, refl, sym}
use Rattle.book_model.proofs.Std.{length-map}
use Rattle.book_model.specs.Words.{Credit, credit_shown}
use Rattle.book_reports.proofs.BillCreditLemmas.{credits_are}
use Rattle.book_reports.proofs.Words.{call_failed, read_as, same_value}
use Rattle.book_reports.proofs.figures.count_credits.Goals as goal

pub returns-in_err-credits : goal.returns-in_err-credits
returns-in_err-credits g c =
    call_failed c.from_residual.result c.from_residual.ensures.1 (λ book. refl) (λ book. refl)
    (λ book is. cc is) c.in_err-credits.ensures

-- there are as many as were gathered
pub returns : goal.returns
returns g c =
    let credits = c.in_ok-credits.credits in
    let count = c.len.ensures ∙ credits.ok.0 ∙ sym (length-map credits.items credit_shown) in
    read_as (λ book. refl) (λ book. refl) (record { reopen = refl; store = refl })
    (λ book said.
    let are = sym (credits_are c.args.period None book.rulings) ∙ same_value said in
    ap (λ (all : List Credit). Ok (length all)) are ∙ ap Ok (sym count))
    c.in_ok-credits.ensures
