use Rattle.std.proofs.Common.{refl}
use Rattle.book_lists.proofs.ReadingLemmas.{call_failed}
use Rattle.book_lists.proofs.ShownLemmas.{answers, both_shown, refused_next, shown, then_stays}
use Rattle.book_reports.proofs.BillLemmas.{bill_known, bill_unlined, bill_unworked}
use Rattle.book_reports.specs.BillCredits.{credits_shown}
use Rattle.book_reports.proofs.bills.gathered.Goals as goal

-- the period is not there
pub returns-in_err-work-clause-bill : goal.returns-in_err-work-clause-bill
returns-in_err-work-clause-bill g c =
    let naming = (g.L.Ledger.seen c.args.ledger.now).naming in
    call_failed c.from_residual.result c.from_residual.ensures.1 (λ book. refl) (λ book. refl)
    (λ book. bill_unworked naming c.args.period c.args.centre.now book c.in_err-work.field-0.0)
    c.in_err-work.ensures.work

-- the lines are refused
pub returns-in_err-lines-clause-bill : goal.returns-in_err-lines-clause-bill
returns-in_err-lines-clause-bill g c =
    let naming = (g.L.Ledger.seen c.args.ledger.now).naming in
    let work = shown (λ book. refl) c.in_ok-work.ensures.work in
    refused_next c.from_residual-in_err-lines.result c.from_residual-in_err-lines.ensures.1
    (λ book. refl) (λ book. refl)
    (λ book known. bill_unlined naming c.args.period c.args.centre.now book c.in_err-lines.field-0.0)
    work (rw work.work.naming at c.in_err-lines.ensures.lines)

-- what is held back, the days or the tariffs
pub returns-in_err-held-clause-bill : goal.returns-in_err-held-clause-bill
returns-in_err-held-clause-bill g c =
    refused_next c.from_residual-in_err-held.result c.from_residual-in_err-held.ensures.1
    (λ book. refl) (λ book. refl) (λ book known is. cc is)
    (then_stays (λ book. refl) (shown (λ book. refl) c.in_ok-work.ensures.work)
    c.in_ok-lines.ensures.lines)
    c.in_err-held.ensures

pub returns-in_err-days-clause-bill : goal.returns-in_err-days-clause-bill
returns-in_err-days-clause-bill g c =
    refused_next c.from_residual-in_err-days.result c.from_residual-in_err-days.ensures.1
    (λ book. refl) (λ book. refl) (λ book known is. cc is)
    (then_stays (λ book. refl)
    (then_stays (λ book. refl) (shown (λ book. refl) c.in_ok-work.ensures.work)
    c.in_ok-lines.ensures.lines)
    c.in_ok-held.ensures)
    c.in_err-days.ensures.days

pub returns-in_err-kept-clause-bill : goal.returns-in_err-kept-clause-bill
returns-in_err-kept-clause-bill g c =
    refused_next c.from_residual-in_err-kept.result c.from_residual-in_err-kept.ensures.1
    (λ book. refl) (λ book. refl) (λ book known is. cc is)
    (then_stays (λ book. refl)
    (then_stays (λ book. refl)
    (then_stays (λ book. refl) (shown (λ book. refl) c.in_ok-work.ensures.work)
    c.in_ok-lines.ensures.lines)
    c.in_ok-held.ensures)
    c.in_ok-days.ensures.days)
    c.in_err-kept.ensures.tariffs

-- or the credits
pub returns-in_err-credits-clause-bill : goal.returns-in_err-credits-clause-bill
returns-in_err-credits-clause-bill g c =
    refused_next c.from_residual-in_err-credits.result c.from_residual-in_err-credits.ensures.1
    (λ book. refl) (λ book. refl) (λ book known is. cc is)
    (then_stays (λ book. refl)
    (then_stays (λ book. refl)
    (then_stays (λ book. refl)
    (then_stays (λ book. refl) (shown (λ book. refl) c.in_ok-work.ensures.work)
    c.in_ok-lines.ensures.lines)
    c.in_ok-held.ensures)
    c.in_ok-days.ensures.days)
    c.in_ok-kept.ensures.tariffs)
    c.in_err-credits.ensures.credits

-- all were read
pub returns-clause-bill : goal.returns-clause-bill
returns-clause-bill g c =
    let naming = (g.L.Ledger.seen c.args.ledger.now).naming in
    let work = shown (λ book. refl) c.in_ok-work.ensures.work in
    let lines = both_shown (λ book. refl) work
    (rw work.work.naming at c.in_ok-lines.ensures.lines) in
    let held = both_shown (λ book. refl) lines (rw lines.work.naming at c.in_ok-held.ensures) in
    let days = both_shown (λ book. refl) held c.in_ok-days.ensures.days in
    let kept = both_shown (λ book. refl) days c.in_ok-kept.ensures.tariffs in
    let all = both_shown (λ book. refl) kept c.in_ok-credits.ensures.credits in
    answers _ (λ book. refl)
    (λ book known. bill_known naming c.args.period c.args.centre.now c.in_ok-work.work
    c.in_ok-lines.lines.items c.in_ok-held.held c.in_ok-days.days c.in_ok-kept.kept
    (credits_shown c.in_ok-credits.credits) book
    known.first.first.first.first.first known.first.first.first.first.next
    known.first.first.first.next known.first.first.next known.first.next known.next)
    all
