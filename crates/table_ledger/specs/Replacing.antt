-- What records cost where a tariff takes the place of the one that begins on its first day, by
-- their rows; and what is known of the tables before it does.
use Rattle.std.specs.Prelude.{◌≡◌, ℕ, ℤ, List, Option, Some, None, find, if◌then◌else◌}
use Rattle.std.specs.Prelude.{option_and_then, true}
use Rattle.std.specs.FinMap.{get}
use Rattle.book_model.specs.Words.{AcceptedTerms, IsPriced, Priced, Terms, is_effective, is_under}
use Rattle.book_model.specs.Words.{price_by, record_with}
use Rattle.table_model.specs.TableChanges.{amount_replaced}
use Rattle.table_model.specs.Words.{RecordRow, Tables}
use Rattle.table_ledger.specs.Repricing.{CostBy, CountsRecords}

-- what a row's record costs by the terms, if its day has the tariff that they take the place of
abbrev pub price_in_place : List AcceptedTerms → Terms → RecordRow → Option Priced
price_in_place tariffs terms row =
    if is_under tariffs terms row.priced.day
    then Some (price_by terms (record_with row.data_bytes)) else None

-- that is a price within the limits
abbrev pub CanCostInPlace : List AcceptedTerms → Terms → RecordRow → Type 0
CanCostInPlace tariffs terms row =
    is_under tariffs terms row.priced.day ≡ true
    → IsPriced (price_by terms (record_with row.data_bytes))

-- what all records then cost together, if the books can hold as much; and each of them can cost so
abbrev pub CostInPlace : List AcceptedTerms → Terms → Tables → Option ℕ → Type 0
CostInPlace tariffs terms tables found =
    CostBy (amount_replaced tariffs terms) (CanCostInPlace tariffs terms) tables found

-- the text of the tariff that begins on the first day, and that the book counts this many records
pub record HasTextAndCounts (terms : Terms) (was : List ℕ) (held : ℕ) (tables : Tables) : Type 0
  where
    pub text : get tables.tariffs terms.effective ≡ Some (Some was)
    pub counted : CountsRecords held tables

-- the text of the first tariff that begins on a day, if it came with one
abbrev pub text_begun : ℤ → List AcceptedTerms → Option (List ℕ)
text_begun day tariffs =
    option_and_then (λ (tariff : AcceptedTerms). tariff.text) (find (is_effective day) tariffs)
