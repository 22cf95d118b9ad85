-- What is known of the tables before a record, a choice or the sums are written.
use Rattle.std.specs.Prelude.{◌≡◌, ℕ, None}
use Rattle.std.specs.FinMap.{get, values}
use Rattle.book_core.specs.OfficeRulings.{ruled_in}
use Rattle.table_model.specs.Tables.{Tables}
use Rattle.table_ledger.specs.declared.summary.Summary.{Summary}

-- the closes are those of the book that the summary remembers
abbrev pub AreRemembered : Summary → Tables → Type 0
AreRemembered summary tables = values tables.closes ≡ (ruled_in summary.rulings).closes

-- the sums in the row of the book are these
pub record HaveSums (held amount : ℕ) (tables : Tables) : Type 0 where
  pub held_is : tables.book.held ≡ held
  pub amount_is : tables.book.amount ≡ amount

-- no choice has the number
abbrev pub IsNext : ℕ → Tables → Type 0
IsNext number tables = get tables.choices number ≡ None
