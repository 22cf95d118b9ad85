-- The parts of what events do: the effects of one record on the open period; a new record, and a
-- choice, with theirs; and what a tariff and an adoption do to the records, one after another.
use Rattle.std.specs.Prelude.{ℕ, ℤ, ◌+◌, int_lt, Bool, true, false, not, ◌&&◌, if◌then◌else◌, List}
use Rattle.std.specs.Prelude.{[], ◌∷◌, Option}
use Rattle.book_model.specs.Std.{get, insert, keys, option_map_or}
use Rattle.book_model.specs.Words.{data_of, record_with, price_by, Terms, Rulings, identity_by}
use Rattle.book_model.specs.Words.{open_by, Priced, AcceptedTerms, is_under}
use Rattle.book_core.specs.declared.effects.ChoiceEffects.{ChoiceEffects}
use Rattle.book_core.specs.declared.effects.Effects.{Effects}
use Rattle.book_core.specs.Words.{charge_held}
use Rattle.table_model.specs.RowChanges.{add_price, change_day, change_line, change_mark}
use Rattle.table_model.specs.RowChanges.{take_price, uncounted_by}
use Rattle.table_model.specs.Steps.{count_where_row, put_choice_row, put_none_row, put_record_row}
use Rattle.table_model.specs.Steps.{set_mark_row, set_sums}
use Rattle.table_model.specs.Tables.{RecordRow, Tables}
use Rattle.table_model.specs.Views.{is_due_in, member_at}

-- the tables with the effects of a record in the open period
abbrev pub apply : ℕ → Effects → Tables → Tables
apply period effects tables = record tables {
  records = change_mark effects.unmark tables.records;
  days = change_day period effects.day tables.days;
  lines = change_line period effects.line tables.lines;
  counted = uncounted_by effects tables.counted;
}

-- the row of a new record
abbrev pub new_row : Rulings → List ℕ → Priced → Effects → RecordRow
new_row rulings bytes priced effects = record {
  identity = identity_by rulings bytes;
  data_bytes = data_of bytes;
  priced = priced;
  charged = effects.charged;
  posted = false;
}

-- the tables with a new record: its effects in the open period, its row under its name, its name
-- among those that are counted if its price joins a charge row, and the record counted in the row of
-- the book
abbrev pub put_new : Rulings → List ℕ → List ℕ → Priced → Effects → Tables → Tables
put_new rulings name bytes priced effects tables =
    set_sums (tables.book.held + 1) (tables.book.amount + priced.amount)
    (count_where_row effects.day name
    (put_record_row name (new_row rulings bytes priced effects)
    (apply (open_by rulings) effects tables)))

-- the tables with a record that is held charged in the open period
abbrev pub charge_in : ℕ → List ℕ → Effects → Tables → Tables
charge_in period name effects tables =
    count_where_row effects.day name (set_mark_row true name (apply period effects tables))

-- The tables with one more choice: what it withdraws, if anything, then the chosen record charged,
-- and the choice's row under its number.
abbrev pub put_choice : ℕ → ℕ → List ℕ → ChoiceEffects → Tables → Tables
put_choice number period name effects tables =
    put_choice_row number name period
    (charge_in period name effects.chosen
    (option_map_or (λ gone. apply period gone tables) effects.withdrawn tables))

-- The tables with one more choice of none: what it withdraws, if anything, and the choice's row.
abbrev pub put_withheld : ℕ → ℕ → List ℕ → Option Effects → Tables → Tables
put_withheld number period name withdrawn tables =
    put_none_row number name period
    (option_map_or (λ gone. apply period gone tables) withdrawn tables)

-- a walk over some rows, by their names: one step for each
abbrev pub walk : (List ℕ → Tables → Tables) → List (List ℕ) → Tables → Tables
walk step [] tables = tables
walk step (name ∷ names) tables = walk step names (step name tables)

-- A record's row with another price. What a charged one cost leaves the charge rows of the open
-- period, and the new price joins them.
abbrev pub reprice : ℕ → List ℕ → RecordRow → Priced → Tables → Tables
reprice period name row priced tables = record tables {
  records = insert tables.records name (record row { priced = priced });
  days = if row.charged then add_price period priced (take_price period row.priced tables.days)
      else tables.days;
}

-- what a row's record will cost under a tariff: as before, if it is dated before the first day
abbrev pub amount_under : Terms → RecordRow → ℕ
amount_under terms row =
    if int_lt row.priced.day terms.effective then row.priced.amount
    else (price_by terms (record_with row.data_bytes)).amount

-- a step of a tariff's walk: a record that is dated on the first day or later gets its new price
abbrev pub reprice_step : ℕ → Terms → List ℕ → Tables → Tables
reprice_step period terms name tables =
    option_map_or (λ row.
    if int_lt row.priced.day terms.effective then tables
    else reprice period name row (price_by terms (record_with row.data_bytes)) tables)
    (get tables.records name) tables

-- a tariff's walk over the records, by name
abbrev pub reprice_each : ℕ → Terms → Tables → Tables
reprice_each period terms tables = walk (reprice_step period terms) (keys tables.records) tables

-- what a row's record will cost where these terms take the place of that one
abbrev pub amount_replaced : List AcceptedTerms → Terms → RecordRow → ℕ
amount_replaced tariffs terms row =
    if is_under tariffs terms row.priced.day
    then (price_by terms (record_with row.data_bytes)).amount
    else row.priced.amount

-- a step of the walk: a record whose day has that tariff gets its new price
abbrev pub replace_step : ℕ → List AcceptedTerms → Terms → List ℕ → Tables → Tables
replace_step period tariffs terms name tables =
    option_map_or (λ row.
    if is_under tariffs terms row.priced.day
    then reprice period name row (price_by terms (record_with row.data_bytes)) tables
    else tables)
    (get tables.records name) tables

-- the walk over the records, by name
abbrev pub replace_each : ℕ → List AcceptedTerms → Terms → Tables → Tables
replace_each period tariffs terms tables =
    walk (replace_step period tariffs terms) (keys tables.records) tables

-- a step of an adoption's walk: a record that is not charged becomes charged if it is due
abbrev pub charge_due_step : ℕ → Option ℤ → (List ℕ → Bool) → List ℕ → Tables → Tables
charge_due_step period last is_due name tables =
    option_map_or (λ row.
    if is_due name && not row.charged
    then charge_in period name (charge_held last (member_at (name, row))) tables
    else tables)
    (get tables.records name) tables

-- an adoption's walk over the records, by name: which of them are due is told by the tables before it
abbrev pub charge_each_due : ℕ → Option ℤ → Tables → Tables
charge_each_due period last tables =
    walk (charge_due_step period last (is_due_in tables)) (keys tables.records) tables
