-- What records cost under a tariff that is for them, by their rows; and what is known of the tables
-- before it is put in force.
use Rattle.std.specs.Prelude.{◌≡◌, ℕ, List, false, int_lt, if◌then◌else◌, Option, Some, None}
use Rattle.std.specs.Prelude.{IsSome, Ok, sum_by}
use Rattle.book_model.specs.Std.{contains_key, get, values}
use Rattle.book_model.specs.Words.{Priced, Book, IsPriced, Naming, Terms, open_number, price_by}
use Rattle.book_model.specs.Words.{record_with, terms_answer}
use Rattle.book_model.specs.declared.answer.Ruled.TheVariants.{Done}
use Rattle.book_core.specs.Words.{if_room}
use Rattle.table_model.specs.Words.{IsReadable, amount_under, reprice_step, RecordRow, Tables}
use Rattle.table_model.specs.Words.{tables_of}
use Rattle.tree_tables.specs.Stored.{IsAsRead}
use Rattle.tree_tables.specs.declared.stored_record.StoredRecord.{StoredRecord}

-- what a row's record costs by a tariff, if it is dated on the first day or later
abbrev pub tariff_price : Terms → RecordRow → Option Priced
tariff_price terms row =
    if int_lt row.priced.day terms.effective then None
    else Some (price_by terms (record_with row.data_bytes))

-- that is a price within the limits
abbrev pub CanCost : Terms → RecordRow → Type 0
CanCost terms row =
    int_lt row.priced.day terms.effective ≡ false
    → IsPriced (price_by terms (record_with row.data_bytes))

-- what all records cost together by such amounts, if the books can hold as much; and each of them
-- can cost so
pub record CostBy (amount : RecordRow → ℕ) (Can : RecordRow → Type 0) (tables : Tables)
    (found : Option ℕ) : Type 0 where
  pub cost : found ≡ if_room (sum_by amount (values tables.records))
  pub can : IsSome found → (name : List ℕ) (row : RecordRow)
      → get tables.records name ≡ Some row → Can row

-- the same under the tariff
abbrev pub CostUnder : Terms → Tables → Option ℕ → Type 0
CostUnder terms tables found = CostBy (amount_under terms) (CanCost terms) tables found

-- the book counts this many records
abbrev pub CountsRecords : ℕ → Tables → Type 0
CountsRecords held tables = tables.book.held ≡ held

-- The tables are those of a book, in its open period, that answers the terms Done for some text.
pub record TakesTariff (period : ℕ) (terms : Terms) (tables : Tables) : Type 0 where
  pub naming : Naming
  pub book : Book
  pub text : List ℕ
  pub readable : IsReadable naming book
  pub done : terms_answer book text terms ≡ Ok Done
  pub number : period ≡ open_number book
  pub are : tables ≡ tables_of naming book

-- that is so, and the book counts this many records
abbrev pub TakesAndCounts : ℕ → Terms → ℕ → Tables → Type 0
TakesAndCounts period terms held tables =
    TakesTariff period terms tables × CountsRecords held tables

-- of the records that the terms are for, which are dated on the first day or later, those are
-- counted that are charged
abbrev pub CountsLate : Terms → Tables → Type 0
CountsLate terms tables =
    (name : List ℕ) (row : RecordRow) → get tables.records name ≡ Some row
    → int_lt row.priced.day terms.effective ≡ false
    → contains_key tables.counted name ≡ row.charged

-- that, and all records together cost this now
pub record CanBeSummed (terms : Terms) (total : ℕ) (tables : Tables) : Type 0 where
  pub sum : total ≡ sum_by (λ (row : RecordRow). row.priced.amount) (values tables.records)
  pub counted : CountsLate terms tables

-- the step of a record that has its price by the terms already changes nothing
abbrev pub StandsPriced : ℕ → Terms → List ℕ → Tables → Type 0
StandsPriced period terms name tables =
    (row : RecordRow) → get tables.records name ≡ Some row
    → row.priced ≡ price_by terms (record_with row.data_bytes)
    → reprice_step period terms name tables ≡ tables

-- a record is in the tables as it was read, and one that is met again stays as it is
abbrev pub CanBeRepriced : ℕ → Terms → StoredRecord → Tables → Type 0
CanBeRepriced period terms stored tables =
    IsAsRead stored tables × StandsPriced period terms stored.name tables
