use Rattle.csv.specs.Writing.{fields_text, is_blank}
use Rattle.report_texts.specs.DisputeTables.{member_heading}
use Rattle.report_texts.proofs.dispute_tables.add_heading.Goals as goal

-- the names call for no quotes
pub returns : goal.returns
unfolding member_heading fields_text is_blank
returns c = c.add_texts.ensures
