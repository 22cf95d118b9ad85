use Rattle.std.proofs.Common.{refl}
use Rattle.book_reports.proofs.ReportLemmas.{report_made}
use Rattle.book_reports.proofs.reports.write_report.Goals as goal

pub returns-clause-report : goal.returns-clause-report
returns-clause-report g c =
    report_made (λ book. refl) c.report_text.result c.report_text.ensures
    c.pass_on.ensures.passed_on
