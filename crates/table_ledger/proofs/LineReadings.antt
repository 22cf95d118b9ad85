-- Adjustment lines as they are found in the tables.
use Rattle.std.proofs.Common.{◌≡◌, ◌∙◌, ℕ, Bool, List, [], ◌∷◌, ◌++◌, ◌+◌, ◌<◌, length, take}
use Rattle.std.proofs.Common.{slice_index_or, Option, Some, None, option_map, sym, ap, filter_map}
use Rattle.book_model.proofs.Std.{get, cons_option, take_more, filter_map-append}
use Rattle.book_model.specs.Words.{by_line, members, set_of}
use Rattle.table_model.specs.Words.{rows_under, line_read, lines_read, RecordRow, RecordTable}
use Rattle.table_model.specs.Words.{Tables}
use Rattle.table_ledger.proofs.Words.{Line, ListsLines, FindsRecord, signed_name, stored_entry}
use Rattle.table_ledger.proofs.Words.{StoredLine, StoredRecord, lines_stored}
use Rattle.table_ledger.specs.LineReads.{line_stored}
use Rattle.book_model.proofs.Lemmas.{filter_map-map}

-- a record that was found is that of its row
pub found_row : (name : List ℕ) (stored : StoredRecord) (found : Option RecordRow)
    → option_map stored_entry (Some stored) ≡ option_map (λ (row : RecordRow). (name, row)) found
    → (found ≡ Some (stored_entry stored).1) × (name ≡ stored.name)
found_row name stored None is = cc
found_row name stored (Some row) is =
    let both : stored_entry stored ≡ (name, row) = (let e = is in cc) in (
      ap (λ (entry : List ℕ × RecordRow). Some entry.1) (sym both),
      ap (λ (entry : List ℕ × RecordRow). entry.0) (sym both),
    )

-- so it is there
pub found_there : (name : List ℕ) (tables : Tables) (held : StoredRecord)
    → FindsRecord name tables (Some held)
    → get tables.records name ≡ Some (stored_entry held).1
found_there name tables held finds = (found_row name held (get tables.records name) finds).0

-- The lines that are read after one more stored line.
pub line_more : (records : RecordTable) (stored : List StoredLine) (at : ℕ)
    (any one : StoredLine) (olds news : List Line) (line : Option Line) → at < length stored
    → one ≡ slice_index_or stored at any → news ≡ olds ++ cons_option line []
    → olds ≡ lines_stored records (take at stored) → line ≡ line_stored records one
    → news ≡ lines_stored records (take (at + 1) stored)
line_more records stored at any one olds news line within is more before said =
    let reads = filter_map (line_stored records) in
    more
    ∙ (λ i. before i ++ cons_option (said i) [])
    ∙ sym (filter_map-append (line_stored records) (take at stored) (one ∷ []))
    ∙ ap (λ (last : StoredLine). reads (take at stored ++ last ∷ [])) is
    ∙ ap reads (sym (take_more stored at any within))

-- a line is read by its name and its sign
abbrev line_named : RecordTable → List ℕ × Bool → Option Line
line_named records named = line_read records ((0, named.0), named.1)

-- The lines are read if the stored lines are those of the period.
pub lines_listed : (period : ℕ) (tables : Tables) (stored : List StoredLine)
    (lines sorted : List Line) → ListsLines period tables stored
    → lines ≡ lines_stored tables.records stored
    → sorted ≡ members (set_of by_line lines) → lines_read period tables ≡ sorted
lines_listed period tables stored lines sorted lists read made =
    let named = line_named tables.records in
    let told : (ℕ × List ℕ) × Bool → List ℕ × Bool = λ row. (row.0.1, row.1) in
    let rows = rows_under period tables.lines in
    let same : lines ≡ filter_map (line_read tables.records) rows =
    read
    ∙ sym (filter_map-map named signed_name stored)
    ∙ ap (filter_map named) lists
    ∙ filter_map-map named told rows in
    ap (λ (some : List Line). members (set_of by_line some)) (sym same) ∙ sym made
