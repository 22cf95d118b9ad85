use Rattle.std.proofs.Common.{◌∙◌, ap, sym}
use Rattle.book_http.proofs.Words.{report_about, Row, kind_in, BodyKind, whole_report}
use Rattle.book_http.proofs.AskedLemmas.{made_whole}
use Rattle.book_http.proofs.asked.report_of.Goals as goal

pub returns-in_default-clause-asked : goal.returns-in_default-clause-asked
returns-in_default-clause-asked c =
    let found = report_about c.args.name c.args.form c.args.thing in
    c.whole_report.ensures.asked ∙ ap (whole_report c.kind_in.result) c.report_about.ensures
    ∙ ap (λ (kind : BodyKind). whole_report kind found)
    (c.kind_in.ensures ∙ ap (λ (row : Row). kind_in row c.args.form) (sym c.row_of.ensures))
    ∙ sym (made_whole c.args.name c.args.form c.args.thing c.in_default.not-Details)
