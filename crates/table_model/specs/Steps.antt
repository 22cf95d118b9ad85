-- The steps that every change of the tables is made of: each changes rows of one table, as one call
-- of the kept tables does.
use Rattle.std.specs.Prelude.{ℕ, ℤ, Bool, true, false, List, Option, None, Some, fold}
use Rattle.std.specs.FinMap.{get, insert, remove}
use Rattle.book_model.specs.declared.row.ChargeRow.{ChargeRow}
use Rattle.book_model.specs.declared.row.RowKey.{RowKey}
use Rattle.book_model.specs.Words.{Credit, Priced}
use Rattle.book_core.specs.declared.effects.DayChange.{DayChange}
use Rattle.table_model.specs.MapChanges.{updated, moved}
use Rattle.table_model.specs.RowChanges.{by_second_rule, change_day, count_where, mark_at, move_on}
use Rattle.table_model.specs.RowChanges.{post_at, post_by, price_at}
use Rattle.table_model.specs.Tables.{JournalRow, RecordRow, ReplacedRow, Tables}
use Rattle.table_model.specs.TablesOf.{row_key}

-- the book counts this many records, which cost this much together
abbrev pub set_sums : ℕ → ℕ → Tables → Tables
set_sums held amount tables =
    record tables { book = record tables.book { held = held; amount = amount } }

-- the book is under a rule of identity, since a period
abbrev pub set_rule : ℕ → ℕ → Tables → Tables
set_rule rule period tables =
    record tables { book = record tables.book { rule = rule; adopted = period } }

-- a tariff's text, if it came with one, is stored under its first day
abbrev pub put_tariff_row : ℤ → Option (List ℕ) → Tables → Tables
put_tariff_row day text tables = record tables { tariffs = insert tables.tariffs day text }

-- the day of a close is stored under its period
abbrev pub put_close_row : ℕ → ℤ → Tables → Tables
put_close_row period through tables =
    record tables { closes = insert tables.closes period through }

-- a record that was chosen, and the period that was open then, are stored under the choice's number
abbrev pub put_named_row : ℕ → List ℕ → Bool → ℕ → Tables → Tables
put_named_row number name counts period tables =
    record tables {
      choices = insert tables.choices number
          (record { name = name; counts = counts; period = period });
    }

abbrev pub put_choice_row : ℕ → List ℕ → ℕ → Tables → Tables
put_choice_row number name period tables = put_named_row number name true period tables

-- the same of a choice of none, by a record of the work
abbrev pub put_none_row : ℕ → List ℕ → ℕ → Tables → Tables
put_none_row number name period tables = put_named_row number name false period tables

-- a tariff that is replaced is stored under its number
abbrev pub put_replaced_row : ℕ → ReplacedRow → Tables → Tables
put_replaced_row number row tables =
    record tables { replaced = insert tables.replaced number row }

-- a credit is stored under its number
abbrev pub put_credit_row : ℕ → Credit → Tables → Tables
put_credit_row number credit tables =
    record tables { credits = insert tables.credits number credit }

-- a record's row is stored under its name
abbrev pub put_record_row : List ℕ → RecordRow → Tables → Tables
put_record_row name row tables = record tables { records = insert tables.records name row }

-- an entry of the journal is stored under its number
abbrev pub put_journal_row : ℕ → JournalRow → Tables → Tables
put_journal_row number row tables =
    record tables { journal = insert tables.journal number row }

-- a record came by the entry of a number, if it came by one
abbrev pub put_came : List ℕ → Option ℕ → Tables → Tables
put_came name None tables = tables
put_came name (Some number) tables =
    record tables { came = insert tables.came name number }

-- a record is charged from now on, or is so no more
abbrev pub set_mark_row : Bool → List ℕ → Tables → Tables
set_mark_row mark name tables =
    record tables { records = mark_at mark name (get tables.records name) tables.records }

-- a record costs something else; its row is otherwise unchanged
abbrev pub put_price_row : List ℕ → Priced → Tables → Tables
put_price_row name priced tables =
    record tables { records = price_at priced name (get tables.records name) tables.records }

-- each record that is charged and dated on or before the day is posted
abbrev pub post_rows : ℤ → Tables → Tables
post_rows day tables = record tables { records = updated (post_by day) tables.records }

-- the record of a name, if there is one, is posted so
abbrev pub post_row : ℤ → List ℕ → Tables → Tables
post_row day name tables =
    record tables { records = post_at day name (get tables.records name) tables.records }

-- those of some names are, one after the other
abbrev pub post_each : ℤ → List (List ℕ) → Tables → Tables
post_each day names tables =
    fold (λ (so_far : Tables) (name : List ℕ). post_row day name so_far) tables names

-- each record has its identity by the second rule
abbrev pub rename_rows : Tables → Tables
rename_rows tables = record tables { records = updated by_second_rule tables.records }

-- a charge row of a period
abbrev pub put_day_row : ℕ → ChargeRow → Tables → Tables
put_day_row period row tables =
    record tables { days = insert tables.days (period, row_key row) row }

abbrev pub drop_day_row : ℕ → RowKey → Tables → Tables
drop_day_row period place tables = record tables { days = remove tables.days (period, place) }

-- a price joins the charge rows of a period, or leaves them: one row is put or dropped
abbrev pub change_day_row : ℕ → Option DayChange → Tables → Tables
change_day_row period change tables =
    record tables { days = change_day period change tables.days }

-- the charge rows of a period that are dated after a day go to the next one
abbrev pub move_day_rows : ℕ → ℤ → Tables → Tables
move_day_rows period day tables =
    record tables { days = moved (move_on period day) tables.days }

-- an adjustment line of a period, which adds a record or reverses it
abbrev pub put_line_row : ℕ → List ℕ → Bool → Tables → Tables
put_line_row period name plus tables =
    record tables { lines = insert tables.lines (period, name) plus }

abbrev pub drop_line_row : ℕ → List ℕ → Tables → Tables
drop_line_row period name tables = record tables { lines = remove tables.lines (period, name) }

-- the charge rows of some period count the record of a name from now on, or do so no more
abbrev pub count_row : List ℕ → Tables → Tables
count_row name tables = record tables { counted = insert tables.counted name tt }

abbrev pub uncount_row : List ℕ → Tables → Tables
uncount_row name tables = record tables { counted = remove tables.counted name }

-- they count it where its price joins them
abbrev pub count_where_row : Option DayChange → List ℕ → Tables → Tables
count_where_row change name tables =
    record tables { counted = count_where change name tables.counted }
