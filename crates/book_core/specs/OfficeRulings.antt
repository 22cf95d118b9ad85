-- The rulings that a ledger keeps apart from its choices, the tariffs that were replaced and its
-- credits, as those of a book.
use Rattle.std.specs.Prelude.{◌<◌, ℤ, Bool, false, List, find, map, reverse, vec_len, vec_capacity}
use Rattle.std.specs.Option.{option_map_or}
use Rattle.book_model.specs.Words.{AcceptedTerms, Rulings, Terms, has_begun, is_effective}
use Rattle.book_model.specs.Words.{no_rulings, or_new}
use Rattle.book_core.specs.declared.rulings.Rulings.{Rulings as OfficeRulings}

-- the tariffs, the closes and the rule of identity, with no other ruling
abbrev pub ruled_in : OfficeRulings → Rulings
ruled_in rulings = record no_rulings {
  tariffs = rulings.tariffs.items;
  closes = rulings.closes.items;
  adopted = rulings.adopted;
}

-- the rulings with a tariff in the place of the one that begins on its first day
abbrev pub in_its_place : AcceptedTerms → Rulings → Rulings
in_its_place new rulings = record rulings { tariffs = map (or_new new) rulings.tariffs }

-- of some tariffs the last that has begun on a day begins on the first day of these terms
abbrev pub is_last_begun : List AcceptedTerms → Terms → ℤ → Bool
is_last_begun tariffs terms day =
    option_map_or (is_effective terms.effective) (find (has_begun day) (reverse tariffs)) false

-- there is room for one more tariff, and for one more close
abbrev pub HasTariffRoom : OfficeRulings → Type 0
HasTariffRoom rulings = vec_len rulings.tariffs < vec_capacity rulings.tariffs

abbrev pub HasCloseRoom : OfficeRulings → Type 0
HasCloseRoom rulings = vec_len rulings.closes < vec_capacity rulings.closes
