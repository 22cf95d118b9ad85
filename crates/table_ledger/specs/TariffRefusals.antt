-- Texts that are not tariffs.
use Rattle.std.specs.Prelude.{◌≡◌, ◌⊎◌, ℕ, List, Err}
use Rattle.book_model.specs.Words.{terms_in, TariffFault}
use Rattle.book_model.specs.declared.fault.LedgerFault.{LedgerFault}
use Rattle.book_model.specs.declared.fault.LedgerFault.TheVariants.{Memory, TariffRefused}

-- memory ran out for it, or the text says no terms, for this cause
abbrev pub IsNoTariff : List ℕ → LedgerFault → Type 0
IsNoTariff text fault =
    (fault ≡ Memory)
    ⊎ ((why : TariffFault) × (fault ≡ TariffRefused why) × (terms_in text ≡ Err why))
