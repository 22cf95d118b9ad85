-- The rows of consistent tables and the records that are held: each row is that of one record that
-- is held, and each record that is held has one row, under its name. And what a period adds and
-- reverses, by the lines of its records.
use Rattle.std.proofs.Common.{◌≡◌, ◌∙◌, ◌&&◌, List, ℕ, Bool, true, Some, ap, sym, filter, map}
use Rattle.std.proofs.Common.{false, true≢false, Option, None, refl, ◌==◌, option_map, filter_map}
use Rattle.std.specs.Cmp.{both_ways, IsTotalOrder}
use Rattle.std.specs.FinMap.{entries, get, values, IsAntisymmetric}
use Rattle.std.specs.List.{list_any}
use Rattle.std.specs.Option.{option_map_or}
use Rattle.std.proofs.lemmas.Cmp.{nat_list_cmp_total}
use Rattle.std.proofs.lemmas.Map.Lookups.{exact_bytes}
use Rattle.std.proofs.lemmas.Map.Views.{tells_apart}
use Rattle.std.proofs.lemmas.Option.{same_Some}
use Rattle.std.proofs.lemmas.Bool.{eq-eqb, eqb-true}
use Rattle.book_model.specs.Words.{Naming, Records, by_bytes, has, identity_by, name_of, price_in}
use Rattle.book_model.proofs.ListLemmas.{list_any-map}
use Rattle.book_model.proofs.RecordSets.{first_of, is, is_itself, second_of}
use Rattle.book_model.proofs.SetLemmas.{has-set_of}
use Rattle.book_model.proofs.GivenLemmas.{any-given}
use Rattle.table_model.specs.BookIn.{book_in, named_by, records_of_rows, row_record}
use Rattle.table_model.specs.DisputesRead.{NamedRow}
use Rattle.table_model.specs.Tables.{RecordRow, Tables}
use Rattle.table_model.specs.PeriodRows.{by_period, rows_under}
use Rattle.table_model.proofs.RowOrder.{list_any-filter}
use Rattle.table_model.proofs.NumberedLemmas.{by_period_exact, by_period_total}
use Rattle.consistent_tables.specs.Consistent.{AreConsistent, IsOwnRow, line_at, ruled}
use Rattle.consistent_tables.proofs.Entries.{entry_there, one_entry}

-- a record has a row, under its name: the price and the identity of the row are its own
pub record HasRow (naming : Naming) (tables : Tables) (bytes : List ℕ) : Type 0 where
  pub row : RecordRow
  pub found : get tables.records (name_of naming bytes) ≡ Some row
  pub is : row_record row ≡ bytes
  pub price : price_in (ruled tables) bytes ≡ Some row.priced
  pub identity : row.identity ≡ identity_by (ruled tables) bytes
  pub own : IsOwnRow naming tables (name_of naming bytes) row

module _ (naming : Naming) (tables : Tables) (whole : AreConsistent naming tables) where
  -- the records that are held
  abbrev pub held : Records
  held = (book_in tables).held

  -- a row passes a test, and is that of a record
  abbrev is_its : (RecordRow → Bool) → List ℕ → NamedRow → Bool
  is_its test bytes entry = test entry.1 && is bytes (row_record entry.1)

  -- a record is among those of the rows that pass a test if one of the rows is its own and passes
  has_by_rows : (test : RecordRow → Bool) (bytes : List ℕ)
      → has (records_of_rows test tables.records) bytes
      ≡ list_any (is_its test bytes) (entries tables.records)
  has_by_rows test bytes =
      let rows : List RecordRow = values tables.records in
      has-set_of nat_list_cmp_total (map row_record (filter test rows)) bytes
      ∙ list_any-map (is bytes) row_record (filter test rows)
      ∙ list_any-filter (λ row. is bytes (row_record row)) test rows
      ∙ list_any-map (λ row. test row && is bytes (row_record row)) (λ (e : NamedRow). e.1)
      (entries tables.records)

  -- such a record has a row, and the row passes
  pub row_where : (test : RecordRow → Bool) (bytes : List ℕ)
      → has (records_of_rows test tables.records) bytes ≡ true
      → (its : HasRow naming tables bytes) × (test its.row ≡ true)
  row_where test bytes there =
      let one = one_entry nat_list_cmp_total exact_bytes tables.records (is_its test bytes)
      (sym (has_by_rows test bytes) ∙ there) in
      let row : RecordRow = one.0.1 in
      let passes = first_of (test row) (is bytes (row_record row)) one.2 in
      let same : bytes ≡ row_record row =
      tells_apart exact_bytes bytes (row_record row)
      (second_of (test row) (is bytes (row_record row)) one.2) in
      let named : one.0.0 ≡ name_of naming bytes =
      (whole.records one.0.0 row one.1).named ∙ ap (name_of naming) (sym same) in
      let found : get tables.records (name_of naming bytes) ≡ Some row =
      ap (get tables.records) (sym named) ∙ one.1 in
      let own = whole.records (name_of naming bytes) row found in (
        record {
          row = row;
          found = found;
          is = sym same;
          price = ap (price_in (ruled tables)) same ∙ own.price;
          identity = own.identity ∙ ap (identity_by (ruled tables)) (sym same);
          own = own;
        },
        passes,
      )

  -- a row that is found has the name of its record
  pub its_name : (name : List ℕ) (row : RecordRow) → get tables.records name ≡ Some row
      → name ≡ name_of naming (row_record row)
  its_name name row there = (whole.records name row there).named

  -- so the record of a row is among those of the rows that pass a test if the row does
  pub has_where : (test : RecordRow → Bool) (name : List ℕ) (row : RecordRow)
      → get tables.records name ≡ Some row
      → has (records_of_rows test tables.records) (row_record row) ≡ test row
  has_where test name row there =
      both_ways (has (records_of_rows test tables.records) (row_record row)) (test row)
      (λ among.
      let its = row_where test (row_record row) among in
      let same : its.0.row ≡ row =
      same_Some its.0.row row (sym its.0.found ∙ ap (get tables.records)
      (sym (its_name name row there)) ∙ there) in
      ap test (sym same) ∙ its.1)
      (λ passes.
      has_by_rows test (row_record row)
      ∙ entry_there nat_list_cmp_total exact_bytes tables.records (is_its test (row_record row))
      name row there (λ i. passes i && is_itself (row_record row) i))

  -- the record of each row is held,
  pub is_held : (name : List ℕ) (row : RecordRow) → get tables.records name ≡ Some row
      → has held (row_record row) ≡ true
  is_held name row there = has_where (λ row. true) name row there

  -- each record that is held has a row,
  pub row_of : (bytes : List ℕ) → has held bytes ≡ true → HasRow naming tables bytes
  row_of bytes there = (row_where (λ row. true) bytes there).0

  -- and no two of them have one name
  pub names_apart : (a b : List ℕ) → has held a ≡ true → has held b ≡ true
      → name_of naming a ≡ name_of naming b → a ≡ b
  names_apart a b there too same =
      let one = row_of a there in
      let other = row_of b too in
      let row : one.row ≡ other.row =
      same_Some one.row other.row
      (sym one.found ∙ ap (get tables.records) same ∙ other.found) in
      sym one.is ∙ ap row_record row ∙ other.is

-- a line under its period and the name of its record
abbrev pub LineRow : Type 0
LineRow = (ℕ × List ℕ) × Bool

-- lines are in a total order, which distinguishes all keys
pub lines_total : IsTotalOrder (by_period by_bytes)
lines_total = by_period_total by_bytes nat_list_cmp_total

pub lines_exact : IsAntisymmetric (by_period by_bytes)
lines_exact = by_period_exact by_bytes exact_bytes

-- the row that has a record
pub record_named : (bytes : List ℕ) (found : Option RecordRow)
    → option_map_or (is bytes) (option_map row_record found) false ≡ true
    → (row : RecordRow) × (found ≡ Some row) × (bytes ≡ row_record row)
record_named bytes None one = absurd (true≢false (sym one))
record_named bytes (Some row) one =
    (row, refl, tells_apart exact_bytes bytes (row_record row) one)

module _ (naming : Naming) (tables : Tables) (whole : AreConsistent naming tables)
    (keeps : Bool → Bool) (number : ℕ) where
  -- the records of the lines of a period that are kept
  abbrev pub kept : Records
  kept = named_by tables.records
      (filter (λ line. keeps line.1) (rows_under number tables.lines))

  -- the record of a line
  abbrev given : LineRow → Option (List ℕ)
  given line = option_map row_record (get tables.records line.0.1)

  -- a line is one of the period, is kept, and is that of a record
  abbrev is_line : List ℕ → LineRow → Bool
  is_line bytes line =
      (line.0.0 == number) && (keeps line.1 && option_map_or (is bytes) (given line) false)

  -- a record is among them if one of the lines is its own
  has_by_lines : (bytes : List ℕ)
      → has kept bytes ≡ list_any (is_line bytes) (entries tables.lines)
  has_by_lines bytes =
      let all : List LineRow = entries tables.lines in
      let own : LineRow → Bool = λ line. line.0.0 == number in
      let good : LineRow → Bool = λ line. keeps line.1 in
      let its : LineRow → Bool = λ line. option_map_or (is bytes) (given line) false in
      has-set_of nat_list_cmp_total (filter_map given (filter good (filter own all))) bytes
      ∙ any-given (is bytes) given (filter good (filter own all))
      ∙ list_any-filter its good (filter own all)
      ∙ list_any-filter (λ line. good line && its line) own all

  -- such a record has a row, and a line in the period that is kept
  pub line_there : (bytes : List ℕ) → has kept bytes ≡ true
      → (its : HasRow naming tables bytes) × (plus : Bool)
      × (line_at tables (name_of naming bytes) number ≡ Some plus) × (keeps plus ≡ true)
  line_there bytes there =
      let one = one_entry lines_total lines_exact tables.lines (is_line bytes)
      (sym (has_by_lines bytes) ∙ there) in
      let line : LineRow = one.0 in
      let its : Bool = option_map_or (is bytes) (given line) false in
      let rest = second_of (line.0.0 == number) (keeps line.1 && its) one.2 in
      let period : line.0.0 ≡ number =
      eqb-true line.0.0 number (first_of (line.0.0 == number) (keeps line.1 && its) one.2) in
      let found = record_named bytes (get tables.records line.0.1) (second_of (keeps line.1) its rest)
      in
      let name : line.0.1 ≡ name_of naming bytes =
      its_name naming tables whole line.0.1 found.0 found.1 ∙ ap (name_of naming) (sym found.2) in (
        row_of naming tables whole bytes
            (ap (has (held naming tables whole)) found.2
            ∙ is_held naming tables whole line.0.1 found.0 found.1),
        line.1,
        (λ i. get tables.lines (sym period i, sym name i)) ∙ one.1,
        first_of (keeps line.1) its rest,
      )

  -- so the record of a row is among them if its line in the period is kept
  pub has_kept : (name : List ℕ) (row : RecordRow) → get tables.records name ≡ Some row
      → has kept (row_record row) ≡ option_map_or keeps (line_at tables name number) false
  has_kept name row there =
      let bytes : List ℕ = row_record row in
      both_ways (has kept bytes) (option_map_or keeps (line_at tables name number) false)
      (λ among.
      let its = line_there bytes among in
      ap (λ line. option_map_or keeps line false)
      (ap (λ own. line_at tables own number) (its_name naming tables whole name row there) ∙ its.2)
      ∙ its.3)
      (λ keep. has_by_lines bytes ∙ one_passes (line_at tables name number) refl keep)
    where
      its_own : (plus : Bool) → keeps plus ≡ true
          → is_line (row_record row) ((number, name), plus) ≡ true
      its_own plus keep =
          let own = ap (λ found. option_map_or (is (row_record row)) (option_map row_record found)
          false) there ∙ is_itself (row_record row) in
          λ i. eq-eqb number number refl i && (keep i && own i)

      one_passes : (line : Option Bool) → line_at tables name number ≡ line
          → option_map_or keeps line false ≡ true
          → list_any (is_line (row_record row)) (entries tables.lines) ≡ true
      one_passes None none keep = absurd (true≢false (sym keep))
      one_passes (Some plus) found keep =
          entry_there lines_total lines_exact tables.lines (is_line (row_record row))
          (number, name) plus found (its_own plus keep)
