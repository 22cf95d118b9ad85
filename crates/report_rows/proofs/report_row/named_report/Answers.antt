use Rattle.std.proofs.Common.{ap, sym, ◌∙◌, find, option_copied}
use Rattle.report_rows.specs.ReportRows.{has_word}
use Rattle.report_rows.proofs.report_row.named_report.Goals as goal

pub returns-in-Some : goal.returns-in-Some
returns-in-Some c =
    ap option_copied (sym c.in-Some.is) ∙ c.report_among.ensures
    ∙ ap (find (has_word c.args.word.now)) c.command_reports.ensures

pub returns-in-None : goal.returns-in-None
returns-in-None c =
    ap option_copied (sym c.in-None.is) ∙ c.report_among.ensures
    ∙ ap (find (has_word c.args.word.now)) c.command_reports.ensures
