-- The tables that trees determine, whatever they hold. Which records are counted is not read back: it
-- follows from the book.
use Rattle.std.specs.Prelude.{ℕ, ℤ, pos, negsuc, Bool, List, [], ◌∷◌, map, ◌==◌, not, Option, Some}
use Rattle.std.specs.Prelude.{None, filter_map, if◌then◌else◌, option_map}
use Rattle.std.specs.FinMap.{empty, from_entries}
use Rattle.sqlite_trees.specs.Tree.{Trees}
use Rattle.sqlite_value.specs.Order.{Row, column, bytes}
use Rattle.sqlite_value.specs.declared.value.Value.{Value}
use Rattle.sqlite_value.specs.declared.value.Value.TheVariants.{Int, Text}
use Rattle.book_model.specs.declared.row.ChargeRow.{ChargeRow}
use Rattle.book_model.specs.declared.row.RowKey.{RowKey}
use Rattle.book_model.specs.Words.{Credit, Note, Reading, same_bytes}
use Rattle.table_model.specs.Tables.{BookRow, ChoiceRow, ImportRow, JournalRow, RecordRow}
use Rattle.table_model.specs.Tables.{ReplacedRow, RowAct, RulingRow, Tables}
use Rattle.tree_tables.specs.JournalColumns.{ending_in, import_word, place_in}

-- the number that a value is
abbrev pub int_value : Value → ℤ
int_value (Int n) = n
int_value value = pos 0

-- the number in a column, unless it is below 0
abbrev pub count_value : ℤ → ℕ
count_value (pos n) = n
count_value (negsuc n) = 0

abbrev pub count_in : Row → ℕ → ℕ
count_in row at = count_value (int_value (column row at))

-- a mark is any number but 0
abbrev pub mark_in : Row → ℕ → Bool
mark_in row at = not (count_in row at == 0)

-- the text that a value is
abbrev pub text_value : Value → Option (List ℕ)
text_value (Text text) = Some text
text_value value = None

abbrev pub tariff_in : Row → ℤ × Option (List ℕ)
tariff_in row = (int_value (column row 0), text_value (column row 1))

abbrev pub closed_in : Row → ℕ × ℤ
closed_in row = (count_in row 0, int_value (column row 1))

abbrev pub record_in : Row → List ℕ × RecordRow
record_in row = (
  bytes (column row 0),
  record {
    identity = bytes (column row 1);
    data_bytes = bytes (column row 2);
    priced = record {
      day = int_value (column row 3);
      shift = bytes (column row 4);
      centre = bytes (column row 5);
      cpu = count_in row 6;
      excp = count_in row 7;
      amount = count_in row 8;
    };
    charged = mark_in row 9;
    posted = mark_in row 10;
  },
)

abbrev pub day_in : Row → (ℕ × RowKey) × ChargeRow
day_in row =
    let day = int_value (column row 1) in
    let centre = bytes (column row 2) in
    let shift = bytes (column row 3) in (
      (count_in row 0, record { day = day; centre = centre; shift = shift }),
      record {
        day = day;
        centre = centre;
        shift = shift;
        count = count_in row 4;
        cpu = count_in row 5;
        blocks = count_in row 6;
        amount = count_in row 7;
      },
    )

abbrev pub line_in : Row → (ℕ × List ℕ) × Bool
line_in row = ((count_in row 0, bytes (column row 1)), mark_in row 2)

abbrev pub choice_in : Row → ℕ × ChoiceRow
choice_in row = (
  count_in row 0,
  record { name = bytes (column row 1); counts = mark_in row 3; period = count_in row 2 },
)

abbrev pub credit_in : Row → ℕ × Credit
credit_in row = (
  count_in row 0,
  record {
    centre = bytes (column row 2);
    amount = int_value (column row 3);
    reason = bytes (column row 4);
    period = count_in row 1;
  },
)

abbrev pub replaced_row_in : Row → ℕ × ReplacedRow
replaced_row_in row = (
  count_in row 0,
  record {
    day = int_value (column row 1);
    text = text_value (column row 3);
    period = count_in row 2;
  },
)

-- the note of an entry
abbrev pub note_in : Row → Note
note_in row = record {
  time = count_in row 1;
  person = bytes (column row 2);
  remark = bytes (column row 3);
  file = bytes (column row 4);
}

-- what an import has read, by the row of its entry
abbrev pub reading_in : Row → Reading
reading_in row = record {
  digest = bytes (column row 7);
  length = count_in row 8;
  known = count_in row 10;
  unpriced = count_in row 11;
  other = count_in row 12;
  headers = count_in row 13;
  trailers = count_in row 14;
  lost = count_in row 15;
  continued = count_in row 16;
  damaged = count_in row 17;
}

-- what an entry is about: an import, if its word is that of one
abbrev pub act_in : Row → RowAct
act_in row =
    if same_bytes (bytes (column row 5)) import_word
    then ImportRow (reading_in row) (ending_in (bytes (column row 18)) (count_in row 19))
    (count_in row 9)
    else RulingRow (place_in (bytes (column row 5)) (int_value (column row 6)))

abbrev pub entry_in : Row → ℕ × JournalRow
entry_in row = (count_in row 0, record { note = note_in row; act = act_in row })

-- the number of the entry by which the record of a row came, if it came by one
abbrev pub number_value : Value → Option ℕ
number_value (Int n) = Some (count_value n)
number_value value = None

abbrev pub came_in : Row → Option (List ℕ × ℕ)
came_in row =
    option_map {U = List ℕ × ℕ} (λ number. (bytes (column row 0), number))
    (number_value (column row 11))

-- the row of the book, by the first row of its tree
abbrev pub book_row_in : List Row → BookRow
book_row_in [] = record { rule = 0; adopted = 0; held = 0; amount = 0 }
book_row_in (row ∷ rows) = record {
  rule = count_in row 1;
  adopted = count_in row 2;
  held = count_in row 3;
  amount = count_in row 4;
}

-- the tables; the names of the records that are counted are told from the others
abbrev pub tables_in : Trees → Tables
tables_in trees = record {
  book = book_row_in (trees 0);
  tariffs = from_entries (map tariff_in (trees 1));
  closes = from_entries (map closed_in (trees 2));
  choices = from_entries (map choice_in (trees 8));
  credits = from_entries (map credit_in (trees 11));
  replaced = from_entries (map replaced_row_in (trees 12));
  records = from_entries (map record_in (trees 3));
  days = from_entries (map day_in (trees 4));
  lines = from_entries (map line_in (trees 5));
  counted = empty;
  journal = from_entries (map entry_in (trees 13));
  came = from_entries (filter_map came_in (trees 3));
}
