use Rattle.csv.specs.Writing.{fields_text, is_blank}
use Rattle.report_texts.specs.JournalTables.{journal_heading}
use Rattle.report_texts.proofs.journal_tables.add_heading.Goals as goal

-- the names call for no quotes
pub returns : goal.returns
unfolding journal_heading fields_text is_blank
returns c = c.add_texts.ensures
