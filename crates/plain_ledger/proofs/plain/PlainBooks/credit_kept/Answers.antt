use Rattle.std.proofs.Common.{◌∙◌, List, Ok, ap, map, slice_get, sym}
use Rattle.book_model.specs.declared.bill.Credit.{Credit}
use Rattle.book_model.specs.Words.{credit_shown}
use Rattle.plain_ledger.proofs.plain.PlainBooks.credit_kept.Goals as goal

-- it is that of its place
pub returns : goal.returns
returns g c =
    ap Ok (ap (λ (credits : List Credit). slice_get (map credit_shown credits) c.args.number)
    (sym c.deref.ensures.value)
    ∙ sym c.in_ok-found.ensures)
