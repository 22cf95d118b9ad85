use Rattle.std.proofs.Common.{◌∙◌, None, Ok, ap, map, refl, subst, sym}
use Rattle.book_model.specs.Words.{AreLines, billed_lines, line_alone}
use Rattle.book_reports.proofs.Words.{BilledLine, call_failed, passed_on, read_as, shown_by}
use Rattle.book_reports.proofs.BillLineLemmas.{plain_lines}
use Rattle.book_reports.proofs.bill_lines.office_lines.Goals as goal

pub returns-in_err-lines-clause-lines : goal.returns-in_err-lines-clause-lines
returns-in_err-lines-clause-lines g c =
    let naming = (g.L.Ledger.seen c.args.ledger.now).naming in
    call_failed c.from_residual.result c.from_residual.ensures.1 (λ book. refl) (λ book. refl)
    (λ book. ap (shown_by (billed_lines naming book c.args.period None)))
    c.in_err-lines.ensures.lines

pub returns-in_err-billed-clause-lines : goal.returns-in_err-billed-clause-lines
returns-in_err-billed-clause-lines g c =
    rw (passed_on c.from_residual-in_err-billed.result c.from_residual-in_err-billed.ensures.1)
    (read_as (λ book. refl) (λ book. refl) (record { reopen = refl; store = refl })
    (λ book said. tt) c.in_ok-lines.ensures.lines)

pub returns-clause-lines : goal.returns-clause-lines
returns-clause-lines g c =
    let naming = (g.L.Ledger.seen c.args.ledger.now).naming in
    let made = c.in_ok-billed.ensures ∙ ap (map line_alone) c.deref.ensures.value in
    read_as (λ book. refl) (λ book. refl) (record { reopen = refl; store = refl })
    (λ book said. ap (shown_by (billed_lines naming book c.args.period None)) said ∙ ap Ok (sym made))
    c.in_ok-lines.ensures.lines

pub returns-clause-shown : goal.returns-clause-shown
returns-clause-shown g c =
    let made = c.in_ok-billed.ensures ∙ ap (map line_alone) c.deref.ensures.value in
    subst AreLines
    (sym (ap (map (λ (one : BilledLine). one.line)) made ∙ plain_lines c.in_ok-lines.lines.items))
    c.in_ok-lines.ensures.shown
