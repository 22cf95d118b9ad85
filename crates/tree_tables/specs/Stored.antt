-- Rows that code passes on and gets back, as rows of the tables under their keys.
use Rattle.std.specs.Prelude.{◌≡◌, ℕ, ℤ, pos, List, Bool, true, false, Option, None, Some, Vec}
use Rattle.std.specs.Prelude.{string_bytes}
use Rattle.std.specs.FinMap.{get}
use Rattle.std.specs.Global.{Global}
use Rattle.sqlite_value.specs.Order.{Row, column}
use Rattle.sqlite_value.specs.declared.value.Value.TheVariants.{Blob, Int, Text}
use Rattle.tariff_rules.specs.declared.priced.Priced.{Priced}
use Rattle.book_model.specs.Words.{Credit}
use Rattle.table_model.specs.Steps.{put_came, put_record_row}
use Rattle.table_model.specs.Tables.{BookRow, ChoiceRow, RecordRow, ReplacedRow, Tables}
use Rattle.tree_tables.specs.Columns.{flag}
use Rattle.tree_tables.specs.declared.book_row.StoredBook.{StoredBook}
use Rattle.tree_tables.specs.declared.choice_rows.StoredChoice.{StoredChoice}
use Rattle.tree_tables.specs.declared.closed_rows.Close.{Close}
use Rattle.tree_tables.specs.declared.credit_rows.CreditText.{CreditText}
use Rattle.tree_tables.specs.declared.credit_rows.StoredCredit.{StoredCredit}
use Rattle.tree_tables.specs.declared.line_rows.StoredLine.{StoredLine}
use Rattle.tree_tables.specs.declared.record_rows.NewRecord.{NewRecord}
use Rattle.tree_tables.specs.declared.replaced_rows.ReplacedText.{ReplacedText}
use Rattle.tree_tables.specs.declared.replaced_rows.StoredReplaced.{StoredReplaced}
use Rattle.tree_tables.specs.declared.stored_record.RecordMark.{RecordMark}
use Rattle.tree_tables.specs.declared.stored_record.StoredRecord.{StoredRecord}
use Rattle.tree_tables.specs.declared.tariff_rows.StoredTariff.{StoredTariff}

-- the row of the book, as it was read
abbrev pub book_entry : StoredBook → BookRow
book_entry stored = record {
  rule = stored.rule;
  adopted = stored.adopted;
  held = stored.held;
  amount = stored.amount;
}

-- a tariff as an entry of its table
abbrev pub tariff_of : StoredTariff → ℤ × Option (List ℕ)
tariff_of tariff = (tariff.day, Some (string_bytes tariff.body))

-- a close as an entry of its table
abbrev pub close_entry : Close → ℕ × ℤ
close_entry close = (close.period, close.through)

-- a choice as an entry of its table
abbrev pub choice_entry : StoredChoice → ℕ × ChoiceRow
choice_entry choice = (
  choice.number,
  record { name = choice.name; counts = choice.counts; period = choice.period },
)

-- the columns are those of the choice
pub record SaysChoice (row : Row) (choice : StoredChoice) : Type 0 where
  pub number : column row 0 ≡ Int (pos choice.number)
  pub name : column row 1 ≡ Blob choice.name
  pub period : column row 2 ≡ Int (pos choice.period)
  pub counts : column row 3 ≡ Int (pos (flag choice.counts))

-- a credit that is to be written
abbrev pub credit_given : CreditText → Credit
credit_given credit = record {
  centre = credit.centre;
  amount = credit.amount;
  reason = credit.reason.now;
  period = credit.period;
}

-- a credit as an entry of its table
abbrev pub credit_entry : StoredCredit → ℕ × Credit
credit_entry credit = (
  credit.number,
  record {
    centre = credit.centre;
    amount = credit.amount;
    reason = string_bytes credit.reason;
    period = credit.period;
  },
)

-- the columns are those of the credit
pub record SaysCredit (row : Row) (credit : StoredCredit) : Type 0 where
  pub number : column row 0 ≡ Int (pos credit.number)
  pub period : column row 1 ≡ Int (pos credit.period)
  pub centre : column row 2 ≡ Text credit.centre
  pub amount : column row 3 ≡ Int credit.amount
  pub reason : column row 4 ≡ Text (string_bytes credit.reason)

-- a tariff that is replaced, as it is to be written
abbrev pub replaced_given : ReplacedText → ReplacedRow
replaced_given tariff =
    record { day = tariff.day; text = Some tariff.body.now; period = tariff.period }

-- a tariff that was replaced as an entry of its table
abbrev pub replaced_entry : StoredReplaced → ℕ × ReplacedRow
replaced_entry tariff = (
  tariff.number,
  record { day = tariff.day; text = Some (string_bytes tariff.body); period = tariff.period },
)

-- the columns are those of the tariff
pub record SaysReplaced (row : Row) (tariff : StoredReplaced) : Type 0 where
  pub number : column row 0 ≡ Int (pos tariff.number)
  pub day : column row 1 ≡ Int tariff.day
  pub period : column row 2 ≡ Int (pos tariff.period)
  pub text : column row 3 ≡ Text (string_bytes tariff.body)

-- a record that is to be written
abbrev pub new_entry : NewRecord → List ℕ × RecordRow
new_entry kept = (
  kept.name.now,
  record {
    identity = kept.identity.now;
    data_bytes = kept.data_bytes.now;
    priced = kept.priced;
    charged = kept.charged;
    posted = kept.posted;
  },
)

-- no record has the name, and none that had it is counted or came by an entry
pub record IsFree (name : List ℕ) (tables : Tables) : Type 0 where
  pub none : get tables.records name ≡ None
  pub uncounted : get tables.counted name ≡ None
  pub came : get tables.came name ≡ None

-- the tables with a new record, which came by the entry of a number, if it came by one
abbrev pub inserted : List ℕ × RecordRow → Option ℕ → Tables → Tables
inserted entry came tables = put_came entry.0 came (put_record_row entry.0 entry.1 tables)

-- a record was written, and is not counted yet
pub record IsUncounted (entry : List ℕ × RecordRow) (tables : Tables) : Type 0 where
  pub there : get tables.records entry.0 ≡ Some entry.1
  pub uncounted : get tables.counted entry.0 ≡ None

-- a record that was read
abbrev pub stored_entry : StoredRecord → List ℕ × RecordRow
stored_entry stored = (
  stored.name,
  record {
    identity = stored.identity.items;
    data_bytes = stored.data_bytes.items;
    priced = stored.priced;
    charged = stored.charged;
    posted = stored.posted;
  },
)

-- what its row says that tells whether a period counts it
abbrev pub mark_of : List ℕ × RecordRow → RecordMark
mark_of entry =
    record { name = entry.0; day = entry.1.priced.day; charged = entry.1.charged }

-- it, where it costs this
abbrev pub priced_entry : StoredRecord → Priced → List ℕ × RecordRow
priced_entry stored priced =
    (stored.name, record (stored_entry stored).1 { priced = priced })

-- it is in the tables as it was read
abbrev pub IsAsRead : StoredRecord → Tables → Type 0
IsAsRead stored tables = get tables.records stored.name ≡ Some (stored_entry stored).1

-- a row of the tree of marks says this identity, where its record is not charged
abbrev pub SaysUncharged : Row → Option (Vec ℕ Global) → Type 0
SaysUncharged row None = column row 0 ≡ Int (pos (flag true))
SaysUncharged row (Some identity) =
    (column row 0 ≡ Int (pos (flag false))) × (column row 1 ≡ Blob identity.items)

-- the name of a line's record, and whether it adds the record
abbrev pub signed_name : StoredLine → List ℕ × Bool
signed_name line = (line.name, line.plus)

-- the columns after the period are those of the line
pub record SaysLine (row : Row) (line : StoredLine) : Type 0 where
  pub name : column row 1 ≡ Blob line.name
  pub plus : column row 2 ≡ Int (pos (flag line.plus))
