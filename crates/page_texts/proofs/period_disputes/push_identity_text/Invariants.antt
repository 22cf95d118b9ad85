use Rattle.html_text.specs.Escaping.{escaped}
use Rattle.report_texts.specs.DisputeLists.{identity_line}
use Rattle.page_texts.proofs.period_disputes.push_identity_text.Given as goal

-- the piece is the line as a page shows it
abbrev pub ghost-leave_out : goal.ghost-leave_out
ghost-leave_out a = escaped (identity_line a.value.now.now)
