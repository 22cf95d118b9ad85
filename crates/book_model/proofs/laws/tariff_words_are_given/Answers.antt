use Rattle.book_model.proofs.TariffWords.{tariff_words_are_given}
use Rattle.book_model.proofs.laws.tariff_words_are_given.Goals as goal

pub returns : goal.returns
returns c = tariff_words_are_given
