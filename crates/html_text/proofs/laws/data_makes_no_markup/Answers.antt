use Rattle.html_text.proofs.EscapingLemmas.{data_makes_no_markup}
use Rattle.html_text.proofs.laws.data_makes_no_markup.Goals as goal

pub returns : goal.returns
returns c = data_makes_no_markup
