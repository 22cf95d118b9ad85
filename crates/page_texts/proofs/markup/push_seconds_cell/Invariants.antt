use Rattle.report_texts.specs.Columns.{seconds_text}
use Rattle.page_texts.proofs.markup.push_seconds_cell.Given as goal

-- the piece is the seconds
abbrev pub ghost-push_made : goal.ghost-push_made
ghost-push_made a = seconds_text a.value.now
