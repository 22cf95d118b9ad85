-- What happens to one row, and so to the table that it stands in: to a charge row, which a price
-- joins or leaves, and which a close may move; to a line; to the name of a record that the charge
-- rows count; and to a record's row, where the record becomes charged or is so no more, costs
-- something else, is posted, or gets another identity.
use Rattle.std.specs.Prelude.{ℕ, ℤ, suc, ◌-◌, ◌==◌, int_lt, Bool, true, false, ◌&&◌, if◌then◌else◌}
use Rattle.std.specs.Prelude.{List, [], Option, Some, None, unwrap_or}
use Rattle.book_model.specs.Std.{get, insert, remove, option_map_or}
use Rattle.book_model.specs.declared.row.ChargeRow.{ChargeRow}
use Rattle.book_model.specs.declared.row.RowKey.{RowKey}
use Rattle.book_model.specs.Words.{Priced, identity2_of, key_of, record_with, row_at}
use Rattle.book_core.specs.declared.effects.DayChange.{DayChange}
use Rattle.book_core.specs.declared.effects.DayChange.TheVariants.{Add, Take}
use Rattle.book_core.specs.declared.effects.Effects.{Effects}
use Rattle.book_core.specs.declared.effects.LineChange.TheVariants.{AddPlus, DropPlus, AddMinus}
use Rattle.book_core.specs.declared.effects.LineChange.TheVariants.{DropMinus}
use Rattle.book_core.specs.Words.{with_price}
use Rattle.book_core.specs.declared.effects.LineChange.{LineChange}
use Rattle.table_model.specs.Tables.{CountedTable, DayTable, LineTable, RecordRow, RecordTable}

-- the charge row with one price less
abbrev pub less_price : ChargeRow → Priced → ChargeRow
less_price row one = record row {
  count = row.count - 1;
  cpu = row.cpu - one.cpu;
  blocks = row.blocks - one.excp;
  amount = row.amount - one.amount;
}

-- a price joins the row of its place; if there is none, it makes one
abbrev pub add_price : ℕ → Priced → DayTable → DayTable
add_price period priced days =
    let place : ℕ × RowKey = (period, key_of priced) in
    let row : ChargeRow = unwrap_or (get days place) (row_at [] (key_of priced)) in
    insert days place (with_price row priced)

-- a price leaves a row; a row is deleted if its count falls to 0
abbrev pub take_at : ℕ × RowKey → Option ChargeRow → Priced → DayTable → DayTable
take_at place None priced days = days
take_at place (Some row) priced days =
    if row.count == 1 then remove days place else insert days place (less_price row priced)

-- a price leaves the row of its place
abbrev pub take_price : ℕ → Priced → DayTable → DayTable
take_price period priced days =
    take_at (period, key_of priced) (get days (period, key_of priced)) priced days

-- the charge rows after a change in the open period
abbrev pub change_day : ℕ → Option DayChange → DayTable → DayTable
change_day period None days = days
change_day period (Some (Add priced)) days = add_price period priced days
change_day period (Some (Take priced)) days = take_price period priced days

-- a charge row of the open period that is dated after the day belongs to the next period
abbrev pub move_on : ℕ → ℤ → ℕ × RowKey → ℕ × RowKey
move_on number day place =
    if (place.0 == number) && int_lt day place.1.day then (suc number, place.1) else place

-- the lines after a change in the open period
abbrev pub change_line : ℕ → Option LineChange → LineTable → LineTable
change_line period None lines = lines
change_line period (Some (AddPlus name)) lines = insert lines (period, name) true
change_line period (Some (DropPlus name)) lines = remove lines (period, name)
change_line period (Some (AddMinus name)) lines = insert lines (period, name) false
change_line period (Some (DropMinus name)) lines = remove lines (period, name)

-- a name leaves those that are counted, where a price leaves the charge rows
abbrev pub uncount_where : Option DayChange → List ℕ → CountedTable → CountedTable
uncount_where None name counted = counted
uncount_where (Some (Add priced)) name counted = counted
uncount_where (Some (Take priced)) name counted = remove counted name

-- the record that is no longer charged is counted no more, where its price leaves the charge rows
abbrev pub uncounted_by : Effects → CountedTable → CountedTable
uncounted_by effects counted =
    option_map_or (λ name. uncount_where effects.day name counted) effects.unmark counted

-- a name joins those that are counted, where a price joins the charge rows
abbrev pub count_where : Option DayChange → List ℕ → CountedTable → CountedTable
count_where None name counted = counted
count_where (Some (Add priced)) name counted = insert counted name tt
count_where (Some (Take priced)) name counted = counted

-- a record's row, if there is one, is marked as charged, or loses its mark
abbrev pub mark_at : Bool → List ℕ → Option RecordRow → RecordTable → RecordTable
mark_at mark name None records = records
mark_at mark name (Some row) records = insert records name (record row { charged = mark })

-- the records after one of them, if any, is no longer charged
abbrev pub change_mark : Option (List ℕ) → RecordTable → RecordTable
change_mark None records = records
change_mark (Some name) records = mark_at false name (get records name) records

-- a record's row, if there is one, has another price
abbrev pub price_at : Priced → List ℕ → Option RecordRow → RecordTable → RecordTable
price_at priced name None records = records
price_at priced name (Some row) records = insert records name (record row { priced = priced })

-- a record that is dated on or before the day is posted if it is charged; the others are unchanged
abbrev pub post_by : ℤ → RecordRow → RecordRow
post_by day row =
    if int_lt day row.priced.day then row else record row { posted = row.charged }

-- a record's row, if there is one, is posted so
abbrev pub post_at : ℤ → List ℕ → Option RecordRow → RecordTable → RecordTable
post_at day name None records = records
post_at day name (Some row) records = insert records name (post_by day row)

-- a record's row with its identity by the second rule
abbrev pub by_second_rule : RecordRow → RecordRow
by_second_rule row = record row { identity = identity2_of (record_with row.data_bytes) }
