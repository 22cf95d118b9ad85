use Rattle.std.proofs.Common.{ap, sym, ◌∙◌, bytes_eq}
use Rattle.report_rows.specs.ReportRows.{Row}
use Rattle.report_rows.proofs.report_row.has_word.Goals as goal

pub returns : goal.returns
returns c =
    c.eq.ensures ∙ ap (λ (row : Row). bytes_eq row.word c.args.word.now) (sym c.row_of.ensures)
