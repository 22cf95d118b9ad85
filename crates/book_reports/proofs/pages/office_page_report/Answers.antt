use Rattle.std.proofs.Common.{◌≡◌, ◌∙◌, ap, arith, length, map, refl, rules, ℤ, List}
use Rattle.book_model.specs.Words.{letterhead_shown}
use Rattle.book_reports.specs.declared.figures.OpenPeriod.{OpenPeriod}
use Rattle.book_reports.proofs.PageLemmas.{office_known, period_known}
use Rattle.book_reports.proofs.Words.{figures_seen, office_page_text, number_after, call_failed}
use Rattle.book_reports.proofs.Words.{passed_on, answers, answers_none, both_shown, refused_next}
use Rattle.book_reports.proofs.Words.{shown, shown_as, then_shown, then_stays}
use Rattle.book_reports.proofs.pages.office_page_report.Goals as goal

pub returns-in_err-closes : goal.returns-in_err-closes
returns-in_err-closes g c =
    call_failed c.from_residual.result c.from_residual.ensures.1 (λ book. refl) (λ book. refl)
    (λ book is. cc is) c.in_err-closes.ensures.days

pub returns-in_err-credits : goal.returns-in_err-credits
returns-in_err-credits g c =
    refused_next c.from_residual-in_err-credits.result c.from_residual-in_err-credits.ensures.1
    (λ book. refl) (λ book. refl) (λ book known is. cc is)
    (shown (λ book. refl) c.in_ok-closes.ensures.days) c.in_err-credits.ensures

pub loop-before-init : goal.loop-before-init
loop-before-init g c =
    shown_as
    (λ book known. record {
      closed = known.first;
      credited = known.next;
      figures = ap (map figures_seen) c.new-periods.ensures.items;
    })
    (both_shown (λ book. refl) (shown (λ book. refl) c.in_ok-closes.ensures.days)
    c.in_ok-credits.ensures)

-- the figures of a period are refused
pub returns-in_err-figures : goal.returns-in_err-figures
returns-in_err-figures g c =
    refused_next c.from_residual-in_err-figures.result c.from_residual-in_err-figures.ensures.1
    (λ book. refl) (λ book. refl) (λ book known is. cc is) c.loop-before.invariant
    c.in_err-figures.ensures

-- there is no memory for one more
pub returns-in_err-push : goal.returns-in_err-push
returns-in_err-push g c =
    rw (passed_on c.from_residual-in_err-push.result c.from_residual-in_err-push.ensures.1)
    (answers_none (λ book. refl)
    (then_stays (λ book. refl) c.loop-before.invariant c.in_ok-figures.ensures))

-- one more
pub loop-before-preserved : goal.loop-before-preserved
loop-before-preserved g c =
    let it = c.loop-before.invariant in
    then_shown (λ book. refl)
    (λ book known said. period_known known c.in_ok-figures.figures c.push.new.self.items said
    c.in_ok-push.ensures.items)
    it (rw (it.work.naming, c.deref-in-loop-before.ensures.value) at c.in_ok-figures.ensures)

-- the tariffs are refused, or the disputes
pub returns-in_err-kept : goal.returns-in_err-kept
returns-in_err-kept g c =
    refused_next c.from_residual-in_err-kept.result c.from_residual-in_err-kept.ensures.1
    (λ book. refl) (λ book. refl) (λ book known is. cc is) c.loop-before.invariant
    c.in_err-kept.ensures.tariffs

pub returns-in_err-disputes : goal.returns-in_err-disputes
returns-in_err-disputes g c =
    refused_next c.from_residual-in_err-disputes.result c.from_residual-in_err-disputes.ensures.1
    (λ book. refl) (λ book. refl) (λ book known is. cc is)
    (then_stays (λ book. refl) c.loop-before.invariant c.in_ok-kept.ensures.tariffs)
    c.in_err-disputes.ensures

-- there is no memory for the page
pub returns-in_err-page : goal.returns-in_err-page
returns-in_err-page g c =
    rw (passed_on c.from_residual-in_err-page.result c.from_residual-in_err-page.ensures.1)
    (answers_none (λ book. refl)
    (then_stays (λ book. refl)
    (then_stays (λ book. refl) c.loop-before.invariant c.in_ok-kept.ensures.tariffs)
    c.in_ok-disputes.ensures))

-- these are all
pub returns : goal.returns
returns g c =
    let closes = c.in_ok-closes.closes.items in
    let last : c.period_after-open.result.number ≡ number_after (length closes) =
    ap (λ (at : OpenPeriod). at.number) c.period_after-open.ensures.period
    ∙ ap (λ (days : List ℤ). number_after (length days)) c.deref.ensures.value in
    let few = c.loop-before.auto.before-end in
    let ended = c.loop-before-test.false in
    let all : c.loop-before.before ≡ c.period_after-open.result.number = omega (arith, few, ended) in
    let kept = both_shown (λ book. refl) c.loop-before.invariant c.in_ok-kept.ensures.tariffs in
    let counted = both_shown (λ book. refl) kept (rw kept.work.naming at c.in_ok-disputes.ensures) in
    let made : c.into_bytes.result.items
    ≡ office_page_text (letterhead_shown c.in_ok-kept.kept.letterhead) c.in_ok-disputes.disputes closes
    (map figures_seen c.loop-before.periods.items) = search rules in
    answers c.into_bytes.result (λ book. refl)
    (λ book known. office_known known.first.first c.period_after-open.result.number
    c.in_ok-kept.kept c.in_ok-disputes.disputes c.into_bytes.result.items all last known.first.next
    known.next made)
    counted
