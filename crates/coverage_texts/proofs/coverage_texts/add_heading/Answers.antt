use Rattle.csv.specs.Writing.{fields_text, is_blank}
use Rattle.coverage_texts.specs.Coverage.{coverage_heading}
use Rattle.coverage_texts.proofs.coverage_texts.add_heading.Goals as goal

-- the names call for no quotes
pub returns : goal.returns
unfolding coverage_heading fields_text is_blank
returns c = c.add_texts.ensures
