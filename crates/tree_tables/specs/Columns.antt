-- The rows of the tables: the columns in which each kind of row is kept, those of its key first.
use Rattle.std.specs.Prelude.{ℕ, ℤ, pos, Bool, true, false, List, [], ◌∷◌, ◌++◌, Option, Some}
use Rattle.std.specs.Prelude.{None}
use Rattle.std.specs.Prelude.{if◌then◌else◌}
use Rattle.std.specs.FinMap.{get}
use Rattle.sqlite_value.specs.Order.{Row}
use Rattle.sqlite_value.specs.declared.value.Value.{Value}
use Rattle.sqlite_value.specs.declared.value.Value.TheVariants.{Null, Int, Text, Blob}
use Rattle.book_model.specs.declared.detail.Detail.{Detail}
use Rattle.book_model.specs.declared.row.ChargeRow.{ChargeRow}
use Rattle.book_model.specs.declared.row.RowKey.{RowKey}
use Rattle.book_model.specs.Words.{Credit}
use Rattle.table_model.specs.Tables.{BookRow, CameTable, ChoiceRow, RecordRow, ReplacedRow}

-- a mark is 1 or 0
abbrev pub flag : Bool → ℕ
flag marked = if marked then 1 else 0

-- the row of the book, with its number 1, which is its key
abbrev pub book_columns : BookRow → Row
book_columns row =
    Int (pos 1) ∷ Int (pos row.rule) ∷ Int (pos row.adopted) ∷ Int (pos row.held)
    ∷ Int (pos row.amount) ∷ []

-- the text of a tariff, which came with one
abbrev pub tariff_value : Option (List ℕ) → Value
tariff_value None = Null
tariff_value (Some text) = Text text

-- a tariff: its first day, and its text
abbrev pub tariff_columns : ℤ × Option (List ℕ) → Row
tariff_columns tariff = Int tariff.0 ∷ tariff_value tariff.1 ∷ []

-- a period, and the day through which it was closed
abbrev pub closed_columns : ℕ × ℤ → Row
closed_columns closed = Int (pos closed.0) ∷ Int closed.1 ∷ []

-- The number of the entry by which a record came. The row of one that came by none ends before it,
-- as all rows of older forms do: SQLite reads 0 there.
abbrev pub came_columns : Option ℕ → Row
came_columns None = []
came_columns (Some number) = Int (pos number) ∷ []

-- a record under its name, but for the entry by which it came
abbrev pub record_front : List ℕ × RecordRow → Row
record_front entry =
    let priced = entry.1.priced in
    Blob entry.0 ∷ Blob entry.1.identity ∷ Blob entry.1.data_bytes ∷ Int priced.day
    ∷ Text priced.shift ∷ Text priced.centre ∷ Int (pos priced.cpu) ∷ Int (pos priced.excp)
    ∷ Int (pos priced.amount) ∷ Int (pos (flag entry.1.charged)) ∷ Int (pos (flag entry.1.posted))
    ∷ []

-- a record under its name, by the entries by which records came
abbrev pub record_columns : CameTable → List ℕ × RecordRow → Row
record_columns came entry = record_front entry ++ came_columns (get came entry.0)

-- the columns of a charge row's key: its period, and its place there
abbrev pub day_key_columns : ℕ × RowKey → Row
day_key_columns place =
    Int (pos place.0) ∷ Int place.1.day ∷ Text place.1.centre ∷ Text place.1.shift ∷ []

-- a charge row under its period and place
abbrev pub day_columns : (ℕ × RowKey) × ChargeRow → Row
day_columns entry =
    Int (pos entry.0.0) ∷ Int entry.0.1.day ∷ Text entry.0.1.centre ∷ Text entry.0.1.shift
    ∷ Int (pos entry.1.count) ∷ Int (pos entry.1.cpu) ∷ Int (pos entry.1.blocks)
    ∷ Int (pos entry.1.amount) ∷ []

-- an adjustment line: its period and the record's name, and whether it adds the record
abbrev pub line_columns : (ℕ × List ℕ) × Bool → Row
line_columns line = Int (pos line.0.0) ∷ Blob line.0.1 ∷ Int (pos (flag line.1)) ∷ []

-- a choice: its number, the name of the record that was named, the period that was open then, and
-- whether it counts from then on or none of its work does
abbrev pub choice_columns : ℕ × ChoiceRow → Row
choice_columns choice =
    Int (pos choice.0) ∷ Blob choice.1.name ∷ Int (pos choice.1.period)
    ∷ Int (pos (flag choice.1.counts)) ∷ []

-- a credit: its number, the period that was open then, its centre, its amount and its reason
abbrev pub credit_columns : ℕ × Credit → Row
credit_columns entry =
    Int (pos entry.0) ∷ Int (pos entry.1.period) ∷ Text entry.1.centre ∷ Int entry.1.amount
    ∷ Text entry.1.reason ∷ []

-- a tariff that was replaced: its number among these, its first day, the period that was open then,
-- and its text
abbrev pub replaced_columns : ℕ × ReplacedRow → Row
replaced_columns entry =
    Int (pos entry.0) ∷ Int entry.1.day ∷ Int (pos entry.1.period) ∷ tariff_value entry.1.text ∷ []

-- the name of a record that was chosen, and the number of the choice
abbrev pub choice_name_columns : (List ℕ × ℕ) × Unit {0} → Row
choice_name_columns entry = Blob entry.0.0 ∷ Int (pos entry.0.1) ∷ []

-- an identity and the name of a record that has it
abbrev pub identity_columns : (List ℕ × List ℕ) × Unit {0} → Row
identity_columns entry = Blob entry.0.0 ∷ Blob entry.0.1 ∷ []

-- a record's mark, its identity and its name
abbrev pub mark_columns : (ℕ × (List ℕ × List ℕ)) × Unit {0} → Row
mark_columns entry = Int (pos entry.0.0) ∷ Blob entry.0.1.0 ∷ Blob entry.0.1.1 ∷ []

-- the first of these columns, of charged records that have an identity
abbrev pub charged_part : List ℕ → Row
charged_part identity = Int (pos (flag true)) ∷ Blob identity ∷ []

-- and of records that are not
abbrev pub uncharged_part : List ℕ → Row
uncharged_part identity = Int (pos (flag false)) ∷ Blob identity ∷ []

-- a number that may be missing, as of the step that ended
abbrev pub step_value : Option ℕ → Value
step_value None = Null
step_value (Some step) = Int (pos step)

-- a record that is counted, as details show it: where it is charged, its time and its name, and then
-- the rest
abbrev pub detail_columns : Detail × Unit {0} → Row
detail_columns entry =
    let priced = entry.0.priced in
    Int priced.day ∷ Text priced.centre ∷ Text priced.shift ∷ Int (pos entry.0.time)
    ∷ Blob entry.0.name ∷ Blob entry.0.job ∷ Blob entry.0.program ∷ Blob entry.0.job_id
    ∷ step_value entry.0.step ∷ Int (pos priced.cpu) ∷ Int (pos priced.excp)
    ∷ Int (pos priced.amount) ∷ []
