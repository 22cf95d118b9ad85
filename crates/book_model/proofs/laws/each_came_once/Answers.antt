use Rattle.book_model.proofs.JournalLemmas.{each_came_once}
use Rattle.book_model.proofs.laws.each_came_once.Goals as goal

pub returns : goal.returns
returns c = each_came_once
