-- Lists of rulings: the tariffs, the closes, the choices, the adoption of the second rule, the tariffs
-- that were replaced and the credits, a line for each. A tariff is shown by the SHA-256 of its file and
-- by how many bytes that has.
use Rattle.std.specs.Prelude.{ℕ, ℤ, List, ◌++◌, codes, flat_map, length, decimal}
use Rattle.hex.specs.Hex.{encode_lower}
use Rattle.sha2.specs.Sha256.{sha256}
use Rattle.book_model.specs.Words.{day_text_of, RulingSeen, TariffSeen, CloseSeen, ChoiceSeen}
use Rattle.book_model.specs.Words.{AdoptionSeen, CreditSeen, ReplacedSeen, WithheldSeen}
use Rattle.report_texts.specs.Columns.{credit_text, newline}

-- the file of a tariff, by its text
unfoldable pub file_columns : List ℕ → List ℕ
file_columns text = encode_lower (sha256 text) ++ codes " " ++ decimal (length text)

-- the period that was open when something was ruled
unfoldable pub period_column : ℕ → List ℕ
period_column period = codes "PERIOD " ++ decimal period

-- a close, by its period and its day
unfoldable pub close_words : ℕ → ℤ → List ℕ
close_words period through =
    codes "CLOSE " ++ decimal period ++ codes " " ++ day_text_of through

-- the name of a record that was named, by the number of the choice and the period that was open then
unfoldable pub choice_columns : ℕ → ℕ → List ℕ → List ℕ
choice_columns number period name =
    decimal number ++ codes " " ++ period_column period ++ codes " " ++ encode_lower name

-- a credit, by its centre and its amount, with its reason
unfoldable pub reasoned_credit : List ℕ → ℤ → List ℕ → List ℕ
reasoned_credit centre amount reason =
    centre ++ codes " " ++ credit_text amount ++ codes " " ++ reason

-- the words of a tariff,
unfoldable pub tariff_words : ℤ → List ℕ → List ℕ
tariff_words day text = codes "TARIFF " ++ day_text_of day ++ codes " " ++ file_columns text

-- and of one that took the place of another, by the number of that
unfoldable pub replacing_words : ℤ → List ℕ → ℕ → List ℕ
replacing_words day text number = tariff_words day text ++ codes " REPLACES " ++ decimal number

-- the words of a ruling
unfoldable pub ruling_words : RulingSeen → List ℕ
ruling_words (TariffSeen day text) = tariff_words day text
ruling_words (CloseSeen period through) = close_words period through
ruling_words (ChoiceSeen number period name) =
    codes "CHOICE " ++ choice_columns number period name
ruling_words (AdoptionSeen period) = codes "ADOPTED " ++ period_column period
ruling_words (WithheldSeen number period name) =
    codes "NONE " ++ choice_columns number period name
ruling_words (ReplacedSeen day period text) =
    codes "REPLACED " ++ day_text_of day ++ codes " " ++ period_column period ++ codes " "
    ++ file_columns text
ruling_words (CreditSeen number period centre amount reason) =
    codes "CREDIT " ++ decimal number ++ codes " " ++ period_column period ++ codes " "
    ++ reasoned_credit centre amount reason

-- its line
unfoldable pub ruling_line : RulingSeen → List ℕ
ruling_line ruling = ruling_words ruling ++ newline

-- what stands above the lines
abbrev pub ruling_list_head : List ℕ
ruling_list_head = codes "RULINGS\n"

-- the list of rulings, in their order
abbrev pub ruling_list_text : List RulingSeen → List ℕ
ruling_list_text rulings = ruling_list_head ++ flat_map ruling_line rulings
