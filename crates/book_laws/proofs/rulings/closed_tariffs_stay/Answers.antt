use Rattle.book_laws.proofs.ReplacedStays.{closed_tariffs_stay}
use Rattle.book_laws.proofs.rulings.closed_tariffs_stay.Goals as goal

pub returns : goal.returns
returns c = closed_tariffs_stay
