use Rattle.std.proofs.Common.{ap, sym}
use Rattle.report_rows.specs.ReportRows.{Row}
use Rattle.book_http.proofs.endpoint.shape_of.Goals as goal

pub returns-in-Report : goal.returns-in-Report
returns-in-Report c = rw c.in-Report.is (ap (λ (row : Row). row.shape) (sym c.row_of.ensures))
