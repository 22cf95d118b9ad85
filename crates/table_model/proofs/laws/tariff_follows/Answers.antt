use Rattle.table_model.proofs.TariffChanges.{tariff_follows}
use Rattle.table_model.proofs.laws.tariff_follows.Goals as goal

pub returns : goal.returns
returns c = tariff_follows
