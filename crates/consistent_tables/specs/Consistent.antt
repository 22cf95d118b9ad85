-- Tables that agree with each other and with the bytes of their records. It is all that an audit can
-- see of a file: when a record came its bytes do not say, so which records a close charged is taken
-- from the tables.
use Rattle.std.specs.Prelude.{◌≡◌, ◌⊎◌, ◌<◌, ◌≤◌, ◌-◌, ℕ, zero, suc, Bool, false, not, nat_lt, All}
use Rattle.std.specs.Prelude.{if◌then◌else◌, IfSome, IsSome, List, Option, Some, filter, length, map, sum_by}
use Rattle.std.specs.FinMap.{entries, from_entries, get, values}
use Rattle.std.specs.List.Sorted.{IsStrictlySortedBy}
use Rattle.std.specs.Option.{option_map_or}
use Rattle.std.specs.Ordering.{int_cmp}
use Rattle.book_model.specs.Words.{IsDay, IsPriced, IsUsageRecord, Naming, Rulings, first_rule}
use Rattle.book_model.specs.Words.{Credit, IsCreditOf, Replaced, identity_by, last_period}
use Rattle.book_model.specs.Words.{most_choices, most_cost, most_credits, most_held, most_replaced}
use Rattle.book_model.specs.Words.{Records, has, members, name_of}
use Rattle.book_model.specs.Words.{open_by, price_in, rows_of, second_rule}
use Rattle.table_model.specs.BookIn.{came_with, row_record, rulings_of_tables}
use Rattle.table_model.specs.Readable.{IsTexted}
use Rattle.table_model.specs.Tables.{BookRow, ChoiceRow, ImportRow, JournalRow, RecordRow}
use Rattle.table_model.specs.Tables.{RowAct, RulingRow, Tables, never_adopted}
use Rattle.table_model.specs.TablesOf.{close_entries, replaced_row, tariff_entries, under_numbers}
use Rattle.table_model.specs.Views.{is_due_in}
use Rattle.consistent_tables.specs.DueRows.{due_entry, period_from}

-- the rulings that the tables say
abbrev pub ruled : Tables → Rulings
ruled tables = rulings_of_tables tables

-- the adjustment line of a record in a period: whether it adds the record
abbrev pub line_at : Tables → List ℕ → ℕ → Option Bool
line_at tables name period = get tables.lines (period, name)

-- whether a record was charged before so many last periods, by what is charged now: before a plus
-- line it was not, and before a minus line it was
abbrev pub charged_back : Tables → List ℕ → ℕ → Bool → Bool
charged_back tables name zero now = now
charged_back tables name (suc k) now =
    option_map_or not (line_at tables name (open_by (ruled tables) - k))
    (charged_back tables name k now)

-- its lines in these periods add and reverse it by turns: each says what its period ended with
abbrev pub AreInTurn : Tables → List ℕ → ℕ → Bool → Type 0
AreInTurn tables name zero now = Unit {0}
AreInTurn tables name (suc k) now =
    IfSome (line_at tables name (open_by (ruled tables) - k))
    (λ plus. plus ≡ charged_back tables name k now)
    × AreInTurn tables name k now

-- how many periods there are after that of its day
abbrev pub periods_after : Tables → RecordRow → ℕ
periods_after tables row =
    open_by (ruled tables) - period_from 1 (ruled tables).closes row.priced.day

-- the row of the period of its day counts it
abbrev pub is_counted_row : Tables → List ℕ × RecordRow → Bool
is_counted_row tables entry =
    charged_back tables entry.0 (periods_after tables entry.1) entry.1.charged

-- A record's row: its name, its identity and its price are those of its bytes, and the price is
-- what one can be; it is charged if its work is not withheld, and it is alone in its identity or
-- was named last of it; its lines are in turn; and it is posted if it is dated in a closed period
-- and was charged before the open one.
pub record IsOwnRow (naming : Naming) (tables : Tables) (name : List ℕ) (row : RecordRow) : Type 0
  where
    pub named : name ≡ name_of naming (row_record row)
    pub usage : IsUsageRecord (row_record row)
    pub identity : row.identity ≡ identity_by (ruled tables) (row_record row)
    pub price : price_in (ruled tables) (row_record row) ≡ Some row.priced
    pub priced : IsPriced row.priced
    pub charged : row.charged ≡ is_due_in tables name
    pub turns : AreInTurn tables name (periods_after tables row) row.charged
    pub posted : row.posted
        ≡ (if nat_lt 0 (periods_after tables row)
        then charged_back tables name 1 row.charged else false)

-- a line names a record, in a period after that of its day
pub record IsOwnLine (tables : Tables) (period : ℕ) (name : List ℕ) : Type 0 where
  pub row : RecordRow
  pub held : get tables.records name ≡ Some row
  pub after : period_from 1 (ruled tables).closes row.priced.day < period
  pub begun : period ≤ open_by (ruled tables)

-- the rule of identity: the first, never adopted; or the second, adopted in a period that has begun
abbrev pub IsOwnRule : Tables → BookRow → Type 0
IsOwnRule tables row =
    ((row.rule ≡ first_rule) × (row.adopted ≡ never_adopted))
    ⊎ ((row.rule ≡ second_rule) × (0 < row.adopted) × (row.adopted ≤ open_by (ruled tables)))

-- the rows of the choices under the numbers from 1 on
abbrev pub choice_numbers : Tables → List (ℕ × ChoiceRow)
choice_numbers tables = under_numbers 1 (values tables.choices)

-- a credit was given in a period that has begun, as a call submits one
pub record IsOwnCredit (last : ℕ) (credit : Credit) : Type 0 where
  pub begun : (0 < credit.period) × (credit.period ≤ last)
  pub said : IsCreditOf credit.centre credit.amount credit.reason

-- a tariff was replaced in a period that has begun, and its text says its terms
pub record IsOwnReplaced (last : ℕ) (replaced : Replaced) : Type 0 where
  pub begun : (0 < replaced.period) × (replaced.period ≤ last)
  pub texted : IsTexted replaced.tariff

-- what a row of the journal says of the records that came by it: an import kept so many, and by a
-- ruling came none
abbrev pub IsKeptBy : Records → RowAct → Type 0
IsKeptBy records (RulingRow place) = (bytes : List ℕ) → has records bytes ≡ false
IsKeptBy records (ImportRow reading ending kept) = kept ≡ length (members records)

-- what came by an entry is a record that is held, and the entry is one of the journal
pub record IsOwnCame (tables : Tables) (name : List ℕ) (number : ℕ) : Type 0 where
  pub row : RecordRow
  pub held : get tables.records name ≡ Some row
  pub numbered : 0 < number
  pub there : number ≤ length (values tables.journal)

-- the rows of the records that charge rows count, by name
abbrev pub counted_entries : Tables → List (List ℕ × RecordRow)
counted_entries tables = filter (is_counted_row tables) (entries tables.records)

-- All of it: tariffs, closes, choices, replaced tariffs and credits are rulings that could be
-- made, each record and each line is right by them, and what is kept beside the records is what
-- follows from these. The entries of the journal have numbers without gaps, and each says how many
-- records came by it.
pub record AreConsistent (naming : Naming) (tables : Tables) : Type 0 where
  pub texts : All IsTexted (ruled tables).tariffs
  pub tariffs : tariff_entries (ruled tables).tariffs ≡ entries tables.tariffs
  pub closes : entries tables.closes ≡ close_entries 1 (ruled tables).closes
  pub days_of : All IsDay (ruled tables).closes
  pub in_order : IsStrictlySortedBy int_cmp (ruled tables).closes
  pub rule : IsOwnRule tables tables.book
  pub numbers : entries tables.choices ≡ choice_numbers tables
  pub choices : length (ruled tables).choices ≡ length (values tables.choices)
  pub timely :
      All (λ choice. (0 < choice.period) × (choice.period ≤ open_by (ruled tables)))
      (ruled tables).choices
  pub replaced : entries tables.replaced
      ≡ under_numbers 1 (map replaced_row (ruled tables).replaced)
  pub replaced_own : All (IsOwnReplaced (open_by (ruled tables))) (ruled tables).replaced
  pub credits : entries tables.credits ≡ under_numbers 1 (ruled tables).credits
  pub credits_own : All (IsOwnCredit (open_by (ruled tables))) (ruled tables).credits
  pub entered : entries tables.journal ≡ under_numbers 1 (values tables.journal)
  pub kept :
      (number : ℕ) (row : JournalRow) → get tables.journal number ≡ Some row
      → IsKeptBy (came_with tables.records tables.came number) row.act
  pub came :
      (name : List ℕ) (number : ℕ) → get tables.came name ≡ Some number
      → IsOwnCame tables name number
  pub records :
      (name : List ℕ) (row : RecordRow) → get tables.records name ≡ Some row
      → IsOwnRow naming tables name row
  pub lines :
      (period : ℕ) (name : List ℕ) → IsSome (get tables.lines (period, name))
      → IsOwnLine tables period name
  pub days : tables.days ≡ from_entries (map (due_entry (ruled tables).closes)
      (rows_of (map (λ entry. entry.1.priced) (counted_entries tables))))
  pub counted : tables.counted
      ≡ from_entries (map {B = List ℕ × Unit {0}} (λ entry. (entry.0, tt)) (counted_entries tables))
  pub held : tables.book.held ≡ length (entries tables.records)
  pub amount : tables.book.amount ≡ sum_by (λ row. row.priced.amount) (values tables.records)
  pub few : tables.book.held ≤ most_held
  pub within : tables.book.amount ≤ most_cost
  pub few_closes : length (ruled tables).closes < last_period
  pub few_choices : length (ruled tables).choices ≤ most_choices
  pub few_replaced : length (ruled tables).replaced ≤ most_replaced
  pub few_credits : length (ruled tables).credits ≤ most_credits
