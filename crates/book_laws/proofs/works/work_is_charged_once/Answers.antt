use Rattle.book_laws.proofs.WorkLemmas.{work_is_charged_once}
use Rattle.book_laws.proofs.works.work_is_charged_once.Goals as goal

pub returns : goal.returns
returns c = work_is_charged_once
