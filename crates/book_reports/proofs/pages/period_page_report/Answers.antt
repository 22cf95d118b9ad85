use Rattle.std.proofs.Common.{◌≡◌, List, ap, map, refl, rules, subst, sym}
use Rattle.book_model.specs.declared.bill.Credit.{Credit}
use Rattle.book_model.specs.Words.{credit_shown, dispute_shown, letterhead_shown}
use Rattle.report_texts.specs.Charges.{FitCredits, plain_credits}
use Rattle.book_reports.specs.Pages.{page_with}
use Rattle.book_reports.proofs.PageLemmas.{page_known}
use Rattle.book_reports.proofs.Words.{period_page_text, shown_by, call_failed, passed_on, answers}
use Rattle.book_reports.proofs.Words.{answers_none, both_shown, refused_next, shown, then_stays}
use Rattle.book_reports.proofs.pages.period_page_report.Goals as goal

-- the period is not there
pub returns-in_err-coverage : goal.returns-in_err-coverage
returns-in_err-coverage g c =
    let naming = (g.L.Ledger.seen c.args.ledger.now).naming in
    call_failed c.from_residual.result c.from_residual.ensures.1 (λ book. refl) (λ book. refl)
    (λ book. ap (shown_by (page_with naming c.args.period book))) c.in_err-coverage.ensures

pub returns-in_err-rows : goal.returns-in_err-rows
returns-in_err-rows g c =
    refused_next c.from_residual-in_err-rows.result c.from_residual-in_err-rows.ensures.1
    (λ book. refl) (λ book. refl) (λ book known is. cc is)
    (shown (λ book. refl) c.in_ok-coverage.ensures) c.in_err-rows.ensures.rows

pub returns-in_err-lines : goal.returns-in_err-lines
returns-in_err-lines g c =
    refused_next c.from_residual-in_err-lines.result c.from_residual-in_err-lines.ensures.1
    (λ book. refl) (λ book. refl) (λ book known is. cc is)
    (then_stays (λ book. refl) (shown (λ book. refl) c.in_ok-coverage.ensures)
    c.in_ok-rows.ensures.rows)
    c.in_err-lines.ensures.lines

pub returns-in_err-credits : goal.returns-in_err-credits
returns-in_err-credits g c =
    refused_next c.from_residual-in_err-credits.result c.from_residual-in_err-credits.ensures.1
    (λ book. refl) (λ book. refl) (λ book known is. cc is)
    (then_stays (λ book. refl)
    (then_stays (λ book. refl) (shown (λ book. refl) c.in_ok-coverage.ensures)
    c.in_ok-rows.ensures.rows)
    c.in_ok-lines.ensures.lines)
    c.in_err-credits.ensures.credits

pub returns-in_err-disputes : goal.returns-in_err-disputes
returns-in_err-disputes g c =
    refused_next c.from_residual-in_err-disputes.result c.from_residual-in_err-disputes.ensures.1
    (λ book. refl) (λ book. refl) (λ book known is. cc is)
    (then_stays (λ book. refl)
    (then_stays (λ book. refl)
    (then_stays (λ book. refl) (shown (λ book. refl) c.in_ok-coverage.ensures)
    c.in_ok-rows.ensures.rows)
    c.in_ok-lines.ensures.lines)
    c.in_ok-credits.ensures.credits)
    c.in_err-disputes.ensures.disputes

pub returns-in_err-closes : goal.returns-in_err-closes
returns-in_err-closes g c =
    refused_next c.from_residual-in_err-closes.result c.from_residual-in_err-closes.ensures.1
    (λ book. refl) (λ book. refl) (λ book known is. cc is)
    (then_stays (λ book. refl)
    (then_stays (λ book. refl)
    (then_stays (λ book. refl)
    (then_stays (λ book. refl) (shown (λ book. refl) c.in_ok-coverage.ensures)
    c.in_ok-rows.ensures.rows)
    c.in_ok-lines.ensures.lines)
    c.in_ok-credits.ensures.credits)
    c.in_ok-disputes.ensures.disputes)
    c.in_err-closes.ensures.days

-- the tariffs are refused
pub returns-in_err-kept : goal.returns-in_err-kept
returns-in_err-kept g c =
    refused_next c.from_residual-in_err-kept.result c.from_residual-in_err-kept.ensures.1
    (λ book. refl) (λ book. refl) (λ book known is. cc is)
    (then_stays (λ book. refl)
    (then_stays (λ book. refl)
    (then_stays (λ book. refl)
    (then_stays (λ book. refl)
    (then_stays (λ book. refl) (shown (λ book. refl) c.in_ok-coverage.ensures)
    c.in_ok-rows.ensures.rows)
    c.in_ok-lines.ensures.lines)
    c.in_ok-credits.ensures.credits)
    c.in_ok-disputes.ensures.disputes)
    c.in_ok-closes.ensures.days)
    c.in_err-kept.ensures.tariffs

-- the credits can be shown
pub period_page-requires-clause-credits : goal.period_page-requires-clause-credits
period_page-requires-clause-credits g c =
    subst (λ (credits : List Credit). FitCredits (plain_credits (map credit_shown credits)))
    (sym c.deref-4.ensures.value) c.in_ok-credits.ensures.fit

-- there is no memory for the page
pub returns-in_err-page : goal.returns-in_err-page
returns-in_err-page g c =
    rw (passed_on c.from_residual-in_err-page.result c.from_residual-in_err-page.ensures.1)
    (answers_none (λ book. refl)
    (then_stays (λ book. refl)
    (then_stays (λ book. refl)
    (then_stays (λ book. refl)
    (then_stays (λ book. refl)
    (then_stays (λ book. refl)
    (then_stays (λ book. refl) (shown (λ book. refl) c.in_ok-coverage.ensures)
    c.in_ok-rows.ensures.rows)
    c.in_ok-lines.ensures.lines)
    c.in_ok-credits.ensures.credits)
    c.in_ok-disputes.ensures.disputes)
    c.in_ok-closes.ensures.days)
    c.in_ok-kept.ensures.tariffs))

-- all were read
pub returns : goal.returns
returns g c =
    let naming = (g.L.Ledger.seen c.args.ledger.now).naming in
    let coverage = shown (λ book. refl) c.in_ok-coverage.ensures in
    let rows = both_shown (λ book. refl) coverage c.in_ok-rows.ensures.rows in
    let lines = both_shown (λ book. refl) rows (rw rows.work.naming at c.in_ok-lines.ensures.lines) in
    let credits = both_shown (λ book. refl) lines c.in_ok-credits.ensures.credits in
    let disputes = both_shown (λ book. refl) credits
    (rw credits.work.naming at c.in_ok-disputes.ensures.disputes) in
    let closes = both_shown (λ book. refl) disputes c.in_ok-closes.ensures.days in
    let all = both_shown (λ book. refl) closes c.in_ok-kept.ensures.tariffs in
    let made : c.into_bytes.result.items
    ≡ period_page_text c.args.period (letterhead_shown c.in_ok-kept.kept.letterhead)
    c.in_ok-closes.closes.items c.in_ok-rows.rows.items c.in_ok-lines.lines.items
    (map credit_shown c.in_ok-credits.credits.items)
    (map dispute_shown c.in_ok-disputes.disputes.items) c.in_ok-coverage.coverage.items =
    search rules in
    answers c.into_bytes.result (λ book. refl)
    (λ book known. page_known naming c.args.period c.in_ok-kept.kept c.in_ok-closes.closes.items
    c.in_ok-rows.rows.items c.in_ok-lines.lines.items
    (map credit_shown c.in_ok-credits.credits.items)
    (map dispute_shown c.in_ok-disputes.disputes.items) c.in_ok-coverage.coverage.items
    c.into_bytes.result.items book made known.first.first.first.first.first.first
    known.first.first.first.first.first.next known.first.first.first.first.next
    known.first.first.first.next known.first.first.next known.first.next known.next)
    all
