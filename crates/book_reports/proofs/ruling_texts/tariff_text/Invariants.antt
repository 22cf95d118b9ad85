use Rattle.book_reports.proofs.TariffLemmas.{SeeksOn}
use Rattle.book_reports.proofs.ruling_texts.tariff_text.Given as goal

-- no ruling before the next one is a tariff of that day
abbrev pub invariant-loop-before : goal.invariant-loop-before
invariant-loop-before g l =
    SeeksOn (g.L.Ledger.seen l.fn.ledger) (g.L.Ledger.seen l.ledger) l.before l.next l.fn.day
