-- Adjustment lines: how they are written, and what is read of them.
use Rattle.std.proofs.Common.{◌≡◌, ◌∷◌, [], ℕ, pos, true, false, List, Bool, map}
use Rattle.std.proofs.Common.{None, Some, refl, sym, ap, subst, ◌∙◌}
use Rattle.std.specs.FinMap.{entries, get}
use Rattle.std.specs.List.{AllZip}
use Rattle.sqlite_trees.specs.View.{View}
use Rattle.sqlite_value.specs.Order.{Row, column}
use Rattle.sqlite_value.specs.declared.value.Value.TheVariants.{Blob, Int}
use Rattle.book_model.specs.Words.{by_bytes}
use Rattle.table_model.specs.PeriodRows.{rows_under}
use Rattle.table_model.specs.Steps.{drop_line_row, put_line_row}
use Rattle.table_model.specs.Tables.{Tables}
use Rattle.tree_rows.specs.Layouts.{Answers}
use Rattle.tree_rows.specs.Rows.{Drops, Finds, Puts}
use Rattle.tree_rows.specs.Runs.{run_of}
use Rattle.tree_rows.proofs.Keyed.{row_found, rows_dropped}
use Rattle.tree_rows.proofs.Runs.{run_numbered}
use Rattle.tree_tables.specs.Answers.{FindsLine, ListsLines}
use Rattle.tree_tables.specs.Columns.{flag, line_columns}
use Rattle.tree_tables.specs.Steps.{Always, Changes}
use Rattle.tree_tables.specs.Stored.{SaysLine, signed_name}
use Rattle.tree_tables.specs.declared.line_rows.StoredLine.{StoredLine}
use Rattle.tree_tables.proofs.Holding.{has_rows, have_but, holds_rows, table_put}
use Rattle.tree_tables.proofs.Layouts.{line_layout}
use Rattle.tree_tables.proofs.RowsRead.{nothing_asked, same_blob, told_of_all}

-- a line that is put under its key is put into the table
pub line_put : {old new : View} {key row : Row} (period : ℕ) (name : List ℕ) (plus : Bool)
    → Puts old new 5 key row → key ≡ Int (pos period) ∷ Blob name ∷ []
    → row ≡ line_columns ((period, name), plus)
    → Changes old new Always (put_line_row period name plus)
line_put period name plus puts key_is row_is =
    table_put line_layout (λ (tables : Tables). tables.lines) (period, name) plus
    (put_line_row period name plus) puts key_is row_is (λ tables holds. holds.lines)
    (λ tables. refl) (λ tables placed. placed)

-- a line that is dropped by its key is gone from the table
pub line_dropped : {old new : View} {key : Row} (period : ℕ) (name : List ℕ)
    → Drops old new 5 key → key ≡ Int (pos period) ∷ Blob name ∷ []
    → Changes old new Always (drop_line_row period name)
line_dropped period name drops key_is = record {
  only = drops.rewrites.only;
  made = λ tables holds when.
      holds_rows holds.placed (have_but 5 drops.rewrites.others
      (rows_dropped line_layout tables.lines (period, name) drops holds.lines key_is) (has_rows holds)
      refl);
}

-- marks are kept apart by their numbers
pub same_flag : (one other : Bool) → Int (pos (flag one)) ≡ Int (pos (flag other)) → one ≡ other
same_flag true true same = refl
same_flag true false same = absurd (let e = same in cc)
same_flag false true same = absurd (let e = same in cc)
same_flag false false same = refl

-- A line is looked up by its period and name.
module _ (period : ℕ) (name : List ℕ) (tables : Tables) {rows : List Row} {key row : Row} {hit : Bool}
    (held : rows ≡ map line_columns (entries tables.lines))
    (key_is : key ≡ Int (pos period) ∷ Blob name ∷ []) (finds : Finds key rows row hit) where
  -- one that is not found is not there,
  pub line_missing : hit ≡ false → FindsLine period name tables None
  line_missing missing =
      sym (subst (Answers line_layout tables.lines (period, name) row) missing
      (row_found line_layout tables.lines (period, name) finds held key_is))

  -- one that is found is there, and the row is its own,
  line_there : hit ≡ true
      → (plus : Bool) × (get tables.lines (period, name) ≡ Some plus)
      × (row ≡ line_columns ((period, name), plus))
  line_there there =
      subst (Answers line_layout tables.lines (period, name) row) there
      (row_found line_layout tables.lines (period, name) finds held key_is)

  -- and what is read of the mark is the line's
  pub line_found : (plus : Bool) → hit ≡ true → column row 2 ≡ Int (pos (flag plus))
      → FindsLine period name tables (Some plus)
  line_found plus there says =
      let found = line_there there in
      ap Some (same_flag plus found.0 (sym says ∙ ap (λ r. column r 2) found.2)) ∙ sym found.1

-- what is read of a line's row is the line
line_said : (line : StoredLine) (entry : (ℕ × List ℕ) × Bool) (row : Row) → Unit {0}
    → row ≡ line_columns entry → SaysLine row line → signed_name line ≡ (entry.0.1, entry.1)
line_said line entry row good is says =
    let name : line.name ≡ entry.0.1 =
    same_blob line.name entry.0.1 (sym says.name ∙ ap (λ r. column r 1) is) in
    let plus : line.plus ≡ entry.1 =
    same_flag line.plus entry.1 (sym says.plus ∙ ap (λ r. column r 2) is) in
    λ i. (name i, plus i)

-- the run of a period's number is that of its lines
pub lines_run : (period : ℕ) (tables : Tables) (rows : List Row) (key : Row)
    → rows ≡ map line_columns (entries tables.lines) → key ≡ Int (pos period) ∷ []
    → run_of key rows ≡ map line_columns (rows_under period tables.lines)
lines_run period tables rows key held key_is =
    ap (λ k. run_of k rows) key_is ∙ ap (run_of (Int (pos period) ∷ [])) held
    ∙ run_numbered by_bytes line_layout (λ name. Blob name ∷ []) (λ n name. refl) period
    tables.lines

-- the lines of a period are those that are read of the rows of its number
pub lines_read : (period : ℕ) (tables : Tables) (rows : List Row) (key : Row)
    (all : List StoredLine) → rows ≡ map line_columns (entries tables.lines)
    → key ≡ Int (pos period) ∷ [] → AllZip SaysLine (run_of key rows) all
    → ListsLines period tables all
lines_read period tables rows key all held key_is says =
    told_of_all line_columns SaysLine signed_name
    (λ (row : (ℕ × List ℕ) × Bool). (row.0.1, row.1)) (λ entry. Unit {0}) line_said
    (run_of key rows) all (rows_under period tables.lines)
    (nothing_asked (rows_under period tables.lines)) says
    (lines_run period tables rows key held key_is)
