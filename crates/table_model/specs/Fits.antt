-- Tables whose numbers fit signed 64-bit integers, and whose days and periods are valid.
use Rattle.std.specs.Prelude.{◌≡◌, ℕ, ◌≤◌, ◌<◌, ◌^◌, Bool, IsSome, length, List, Option, Some, ℤ}
use Rattle.std.specs.FinMap.{get, values}
use Rattle.book_model.specs.declared.row.ChargeRow.{ChargeRow}
use Rattle.book_model.specs.declared.row.RowKey.{RowKey}
use Rattle.book_model.specs.Words.{IsDay, IsName, IsPriced, most_held, most_cost, last_period}
use Rattle.book_model.specs.Words.{Credit, IsRule, IsUsageRecord, most_choices, most_credits}
use Rattle.book_model.specs.Words.{IsCreditOf, most_replaced}
use Rattle.table_model.specs.Tables.{ChoiceRow, RecordRow, RecordTable, ReplacedRow, Tables}
use Rattle.table_model.specs.TablesOf.{row_key}
use Rattle.table_model.specs.BookIn.{row_record}

-- smaller numbers than this fit signed 64-bit integers
abbrev pub signed_end : ℕ
signed_end = 2 ^ 63

-- a possible period
pub record IsPeriod (number : ℕ) : Type 0 where
  pub numbered : 0 < number
  pub early : number ≤ last_period

-- a record's row: its data are those of a record that the books can keep
pub record RecordFits (row : RecordRow) : Type 0 where
  pub usage : IsUsageRecord (row_record row)
  pub priced : IsPriced row.priced
  pub cpu : row.priced.cpu < signed_end
  pub excp : row.priced.excp < signed_end
  pub amount : row.priced.amount < signed_end

-- a choice under its number: its name has a record
pub record ChoiceFits (records : RecordTable) (number : ℕ) (row : ChoiceRow) : Type 0 where
  pub numbered : 0 < number
  pub few : number ≤ most_choices
  pub named : IsSome (get records row.name)
  pub period : IsPeriod row.period

-- a tariff that was replaced under its number
pub record ReplacedFits (number : ℕ) (row : ReplacedRow) : Type 0 where
  pub numbered : 0 < number
  pub few : number ≤ most_replaced
  pub day : IsDay row.day
  pub period : IsPeriod row.period

-- a credit under its number
pub record CreditFits (number : ℕ) (credit : Credit) : Type 0 where
  pub numbered : 0 < number
  pub few : number ≤ most_credits
  pub period : IsPeriod credit.period
  pub said : IsCreditOf credit.centre credit.amount credit.reason

-- a charge row under its period and place
pub record DayFits (place : ℕ × RowKey) (row : ChargeRow) : Type 0 where
  pub period : IsPeriod place.0
  pub placed : row_key row ≡ place.1
  pub day : IsDay place.1.day
  pub centre : IsName place.1.centre
  pub shift : IsName place.1.shift
  pub count : row.count < signed_end
  pub cpu : row.cpu < signed_end
  pub blocks : row.blocks < signed_end
  pub amount : row.amount < signed_end

-- all rows
pub record TablesFit (tables : Tables) : Type 0 where
  pub rule : IsRule tables.book.rule
  pub adopted : tables.book.adopted ≤ last_period
  pub held : tables.book.held ≤ most_held
  pub amount : tables.book.amount ≤ most_cost
  pub chosen : length (values tables.choices) ≤ most_choices
  pub tariffs : (day : ℤ) (text : Option (List ℕ)) → get tables.tariffs day ≡ Some text → IsDay day
  pub closes : (number : ℕ) (day : ℤ) → get tables.closes number ≡ Some day
      → IsPeriod number × IsDay day
  pub choices : (number : ℕ) (row : ChoiceRow) → get tables.choices number ≡ Some row
      → ChoiceFits tables.records number row
  pub credits : (number : ℕ) (credit : Credit) → get tables.credits number ≡ Some credit
      → CreditFits number credit
  pub replaced : (number : ℕ) (row : ReplacedRow) → get tables.replaced number ≡ Some row
      → ReplacedFits number row
  pub records : (name : List ℕ) (row : RecordRow) → get tables.records name ≡ Some row
      → RecordFits row
  pub days : (place : ℕ × RowKey) (row : ChargeRow) → get tables.days place ≡ Some row
      → DayFits place row
  pub lines : (place : ℕ × List ℕ) (plus : Bool) → get tables.lines place ≡ Some plus
      → IsPeriod place.0
