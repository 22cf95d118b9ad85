use Rattle.std.proofs.Common.{◌∙◌, None, Ok, Some, ap, refl, sym, if◌then◌else◌, is_some}
use Rattle.book_model.specs.Words.{disputes_in, held_back_in}
use Rattle.book_reports.proofs.Words.{call_failed, read_as, read_then, refused_next, shown}
use Rattle.book_reports.proofs.Words.{same_value}
use Rattle.book_reports.proofs.held_back.held_back.Goals as goal

pub returns-in_err-days : goal.returns-in_err-days
returns-in_err-days g c =
    call_failed c.from_residual.result c.from_residual.ensures.1 (λ book. refl) (λ book. refl)
    (λ book is. cc is) c.in_err-days.ensures.days

-- a closed period holds nothing back
pub returns-then-is_closed : goal.returns-then-is_closed
returns-then-is_closed g c =
    let naming = (g.L.Ledger.seen c.args.ledger.now).naming in
    read_as (λ book. refl) (λ book. refl) (record { reopen = refl; store = refl })
    (λ book said.
    let closed = ap (λ days. is_some days.through) (same_value said) ∙ sym c.is_closed.ensures
    ∙ c.if-is_closed.true in
    ap (λ closed. Ok (if closed then None
    else Some (held_back_in c.args.centre.now (disputes_in naming book.rulings book.held)))) closed)
    c.in_ok-days.ensures.days

pub returns-in_err-held : goal.returns-in_err-held
returns-in_err-held g c =
    refused_next c.from_residual-in_err-held.result c.from_residual-in_err-held.ensures.1
    (λ book. refl) (λ book. refl) (λ book known is. cc is)
    (shown (λ book. refl) c.in_ok-days.ensures.days) c.in_err-held.ensures

-- the open one what its disputes hold back
pub returns : goal.returns
returns g c =
    let days = c.in_ok-days.ensures.days in
    read_then (λ book. refl) (λ book. refl) (λ book. refl) (record { reopen = refl; store = refl })
    (λ book early said.
    let closed = ap (λ days. is_some days.through) (same_value early) ∙ sym c.is_closed.ensures
    ∙ c.if-is_closed.false in
    (λ i. Ok (if closed i then None else Some (same_value said i))))
    days (rw days.work.naming at c.in_ok-held.ensures)
