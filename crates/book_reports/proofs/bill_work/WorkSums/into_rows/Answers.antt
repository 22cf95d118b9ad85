use Rattle.book_reports.proofs.WorkLemmas.{work_made}
use Rattle.book_reports.proofs.bill_work.WorkSums.into_rows.Goals as goal

pub returns : goal.returns
returns c = λ details are.
    work_made c.args.self details are _ c.in_ok-steps.ensures c.in_ok-jobs.ensures
