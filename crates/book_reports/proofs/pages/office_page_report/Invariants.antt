use Rattle.book_lists.proofs.ShownLemmas.{Shows}
use Rattle.book_reports.specs.BillCredits.{credits_shown}
use Rattle.book_reports.proofs.PageLemmas.{KnowsPeriods}
use Rattle.book_reports.proofs.pages.office_page_report.Given as goal

-- the closes and the credits are known, and of the periods so far the figures
abbrev pub invariant-loop-before : goal.invariant-loop-before
invariant-loop-before g l =
    let old = g.L.Ledger.seen l.fn.ledger in
    Shows old (g.L.Ledger.seen l.ledger)
    (KnowsPeriods old.naming l.closes.items (credits_shown l.credits) l.before l.periods.items)
