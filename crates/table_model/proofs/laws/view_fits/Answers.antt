use Rattle.table_model.proofs.ViewFits.{view_fits}
use Rattle.table_model.proofs.laws.view_fits.Goals as goal

pub returns : goal.returns
returns c = view_fits
