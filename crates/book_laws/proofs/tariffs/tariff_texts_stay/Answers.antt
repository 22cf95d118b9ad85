use Rattle.book_laws.proofs.TariffTexts.{tariff_texts_stay}
use Rattle.book_laws.proofs.tariffs.tariff_texts_stay.Goals as goal

pub returns : goal.returns
returns c = tariff_texts_stay
