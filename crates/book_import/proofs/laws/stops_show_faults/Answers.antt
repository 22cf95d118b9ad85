use Rattle.book_import.proofs.StopFaultLemmas.{stops_show_faults}
use Rattle.book_import.proofs.laws.stops_show_faults.Goals as goal

pub returns : goal.returns
returns c = stops_show_faults
