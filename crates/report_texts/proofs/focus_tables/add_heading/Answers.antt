use Rattle.report_texts.specs.Tables.{fields_line}
use Rattle.report_texts.proofs.focus_tables.add_heading.Goals as goal

-- the names are one row
pub returns : goal.returns
unfolding fields_line
returns c = c.add_texts.ensures
