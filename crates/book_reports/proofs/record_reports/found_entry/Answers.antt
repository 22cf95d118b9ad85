use Rattle.std.proofs.Common.{refl}
use Rattle.book_reports.proofs.Words.{call_failed}
use Rattle.book_reports.proofs.RecordReportLemmas.{entry_asked, no_entry}
use Rattle.book_reports.proofs.record_reports.found_entry.Goals as goal

-- the books can't be read
pub returns-in_err-arrival : goal.returns-in_err-arrival
returns-in_err-arrival g c =
    call_failed c.from_residual.result c.from_residual.ensures.1 (λ book. refl) (λ book. refl)
    (λ book is. cc is) c.in_err-arrival.ensures

-- no record is there, or it came by no entry
pub returns-in_default : goal.returns-in_default
returns-in_default g c =
    no_entry c.args.name.now c.in_ok-arrival.ensures c.entries_before.result
    c.entries_before.ensures c.in_default.is

-- or it came by one
pub returns : goal.returns
returns g c =
    entry_asked c.args.name.now c.in_ok-arrival.ensures c.entries_before.result c.in-Some.before
    c.entries_before.ensures c.in-Some.is c.entry.ensures.entry
