use Rattle.std.proofs.Common.{◌∙◌, ap, sym}
use Rattle.report_rows.specs.ReportRows.{Row, path_in}
use Rattle.book_http.proofs.endpoint.front_of.Goals as goal

pub returns-in-Report : goal.returns-in-Report
returns-in-Report c =
    rw c.in-Report.is
    (c.path_in.ensures
    ∙ ap (λ (row : Row). path_in row c.in-Report.form) (sym c.row_of.ensures))
