use Rattle.std.proofs.Common.{◌∙◌, Ok, ap, refl, sym}
use Rattle.book_reports.proofs.FocusLemmas.{focus_known, focus_unlined, focus_unrowed}
use Rattle.book_reports.proofs.Words.{call_failed, passed_on, answers, answers_none, both_shown}
use Rattle.book_reports.proofs.Words.{refused_next, shown, then_stays}
use Rattle.book_reports.proofs.focus_reports.focus_report.Goals as goal

-- the closes, or the tariffs of the period
pub returns-in_err-closes : goal.returns-in_err-closes
returns-in_err-closes g c =
    call_failed c.from_residual.result c.from_residual.ensures.1 (λ book. refl) (λ book. refl)
    (λ book is. cc is) c.in_err-closes.ensures.days

pub returns-in_err-kept : goal.returns-in_err-kept
returns-in_err-kept g c =
    refused_next c.from_residual-in_err-kept.result c.from_residual-in_err-kept.ensures.1
    (λ book. refl) (λ book. refl) (λ book known is. cc is)
    (shown (λ book. refl) c.in_ok-closes.ensures.days) c.in_err-kept.ensures.tariffs

-- the period is not there
pub returns-in_err-rows : goal.returns-in_err-rows
returns-in_err-rows g c =
    refused_next c.from_residual-in_err-rows.result c.from_residual-in_err-rows.ensures.1
    (λ book. refl) (λ book. refl)
    (λ book known. focus_unrowed (g.L.Ledger.seen c.args.ledger.now).naming c.args.period book
    c.in_err-rows.field-0.0)
    (then_stays (λ book. refl) (shown (λ book. refl) c.in_ok-closes.ensures.days)
    c.in_ok-kept.ensures.tariffs)
    c.in_err-rows.ensures.rows

pub returns-in_err-lines : goal.returns-in_err-lines
returns-in_err-lines g c =
    let before = then_stays (λ book. refl) (then_stays (λ book. refl)
    (shown (λ book. refl) c.in_ok-closes.ensures.days) c.in_ok-kept.ensures.tariffs)
    c.in_ok-rows.ensures.rows in
    refused_next c.from_residual-in_err-lines.result c.from_residual-in_err-lines.ensures.1
    (λ book. refl) (λ book. refl)
    (λ book known. focus_unlined (g.L.Ledger.seen c.args.ledger.now).naming c.args.period book
    c.in_err-lines.field-0.0)
    before (rw before.work.naming at c.in_err-lines.ensures.lines)

-- there is no memory for the table
pub returns-in_err-made : goal.returns-in_err-made
returns-in_err-made g c =
    rw (passed_on c.from_residual-in_err-made.result c.from_residual-in_err-made.ensures.1)
    (answers_none (λ book. refl)
    (then_stays (λ book. refl)
    (then_stays (λ book. refl)
    (then_stays (λ book. refl) (shown (λ book. refl) c.in_ok-closes.ensures.days)
    c.in_ok-kept.ensures.tariffs)
    c.in_ok-rows.ensures.rows)
    c.in_ok-lines.ensures.lines))

-- all were read
pub returns : goal.returns
returns g c =
    let naming = (g.L.Ledger.seen c.args.ledger.now).naming in
    let closes = shown (λ book. refl) c.in_ok-closes.ensures.days in
    let kept = both_shown (λ book. refl) closes c.in_ok-kept.ensures.tariffs in
    let rows = both_shown (λ book. refl) kept c.in_ok-rows.ensures.rows in
    let all = both_shown (λ book. refl) rows (rw rows.work.naming at c.in_ok-lines.ensures.lines) in
    answers _ (λ book. refl)
    (λ book known.
    focus_known naming c.args.period book c.in_ok-closes.closes.items c.in_ok-kept.kept
    c.in_ok-rows.rows.items c.in_ok-lines.lines.items known.first.first.first
    known.first.first.next known.first.next known.next
    ∙ ap Ok (sym (rw (
      c.deref.ensures.value,
      c.deref-2.ensures.value,
      c.deref-3.ensures.value,
    ) at c.in_ok-made.ensures)))
    all
