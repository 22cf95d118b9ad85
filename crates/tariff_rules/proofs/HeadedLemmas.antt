-- The tariff of a file's document is what the file is read as.
use Rattle.std.proofs.Common.{◌≡◌, ℕ, Bool, true, false, nat_lt, if◌then◌else◌, List, length, refl}
use Rattle.std.proofs.Common.{Option, Some, None, Err}
use Rattle.std.specs.Option.{option_and_then}
use Rattle.std.specs.Result.{result_ok}
use Rattle.toml.specs.Data.{Members}
use Rattle.toml.specs.Parse.{parse_document}
use Rattle.tariff_rules.specs.Headed.{tariff_in, tariff_of}
use Rattle.tariff_rules.specs.Limits.{most_text}
use Rattle.tariff_rules.specs.TariffFile.{terms_in, terms_of_document}
use Rattle.tariff_rules.specs.declared.fault.TariffFault.TheVariants.{TooMany}

-- a text that is too long, or no document, has no terms either way
pub tariff_of_text : (text : List ℕ) → tariff_in text ≡ result_ok (terms_in text)
tariff_of_text text = by (nat_lt most_text (length text)) (parse_document text)
  where
    by : (long : Bool) (found : Option Members)
        → option_and_then tariff_of (if long then None else found)
        ≡ result_ok (if long then Err TooMany else terms_of_document found)
    by true found = refl
    by false None = refl
    by false (Some document) = refl
