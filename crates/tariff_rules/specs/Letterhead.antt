-- What a tariff file says of the office that bills by it. Both texts need not be there, and are
-- never at fault.
use Rattle.std.specs.Prelude.{ℕ, ◌&&◌, nat_le, Bool, if◌then◌else◌, List, length, codes}
use Rattle.std.specs.Prelude.{Option, Some, None, string_bytes, ℤ, pos}
use Rattle.std.specs.List.{list_all}
use Rattle.std.specs.Option.{option_and_then, option_map, option_map_or}
use Rattle.toml.specs.Data.{as_integer, as_str, get_member, Members}
use Rattle.tariff_rules.specs.Limits.{most_decimals, most_letters}
use Rattle.tariff_rules.specs.TariffFile.{document_in}
use Rattle.tariff_rules.specs.declared.letterhead.Letterhead.{Letterhead}

-- the name of the office, the currency that it bills in, and how many decimals of that it books
pub record LetterheadSeen : Type 0 where
  pub office : Option (List ℕ)
  pub currency : Option (List ℕ)
  pub decimals : ℕ

-- a letterhead as it is returned
abbrev pub letterhead_shown : Letterhead → LetterheadSeen
letterhead_shown letterhead = record {
  office = option_map (λ text. string_bytes text) letterhead.office;
  currency = option_map (λ text. string_bytes text) letterhead.currency;
  decimals = letterhead.decimals;
}

-- how many decimals are booked where a file does not say it
abbrev pub usual_decimals : ℕ
usual_decimals = 2

-- nothing is said
abbrev pub no_letterhead : LetterheadSeen
no_letterhead = record { office = None; currency = None; decimals = usual_decimals }

-- their keys
abbrev pub office_key : List ℕ
office_key = codes "office"

abbrev pub currency_key : List ℕ
currency_key = codes "currency"

abbrev pub decimals_key : List ℕ
decimals_key = codes "decimals"

-- the characters of ASCII from the blank to the tilde
abbrev pub is_printable : ℕ → Bool
is_printable c = nat_le 32 c && nat_le c 126

-- one of them at least, and no more than a letterhead shows
abbrev pub is_letters : List ℕ → Bool
is_letters text =
    nat_le 1 (length text) && nat_le (length text) most_letters && list_all is_printable text

-- a text that can be shown; any other is as if it were not there
abbrev pub if_letters : List ℕ → Option (List ℕ)
if_letters text = if is_letters text then Some text else None

-- the text at a key of a document
unfoldable pub letters_at : Members → List ℕ → Option (List ℕ)
letters_at document key =
    option_and_then if_letters (option_and_then as_str (get_member key document))

-- how many decimals are booked: as many as amounts have, at most; any other value is as if it were
-- not there
abbrev pub decimals_by : Option ℤ → ℕ
decimals_by (Some (pos n)) = if nat_le n most_decimals then n else usual_decimals
decimals_by other = usual_decimals

unfoldable pub decimals_at : Members → ℕ
decimals_at document =
    decimals_by (option_and_then as_integer (get_member decimals_key document))

-- the letterhead of a document
abbrev pub letterhead_of : Members → LetterheadSeen
letterhead_of document = record {
  office = letters_at document office_key;
  currency = letters_at document currency_key;
  decimals = decimals_at document;
}

-- the letterhead of the text: neither part, where it is no document
abbrev pub letterhead_in : List ℕ → LetterheadSeen
letterhead_in text = option_map_or letterhead_of (document_in text) no_letterhead
