use Rattle.report_texts.specs.Tables.{fields_line}
use Rattle.bill_texts.proofs.bill_tables.add_office_heading.Goals as goal

-- the names are one row
pub returns : goal.returns
unfolding fields_line
returns c = c.add_texts.ensures
