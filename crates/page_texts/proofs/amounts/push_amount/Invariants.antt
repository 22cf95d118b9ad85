use Rattle.report_texts.specs.Columns.{amount_text}
use Rattle.page_texts.proofs.amounts.push_amount.Given as goal

-- the piece is the amount
abbrev pub ghost-push_made : goal.ghost-push_made
ghost-push_made a = amount_text a.value.now
