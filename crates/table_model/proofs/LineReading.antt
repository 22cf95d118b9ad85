-- The adjustment lines of a period are read back from the tables.
use Rattle.std.proofs.Common.{◌≡◌, ℕ, List, ◌++◌, map, sym, ap, ◌∙◌, true, false, Bool, Option}
use Rattle.std.proofs.Common.{Some, None, filter_map, option_map, int_cmp}
use Rattle.book_model.proofs.Std.{get, entries, from_entries, option_map_or, eq_by_cmp}
use Rattle.book_model.proofs.Std.{nat_list_cmp_total, filter_map-append, exact_bytes}
use Rattle.book_model.specs.declared.line.Line.{Line}
use Rattle.book_model.specs.Words.{record_with, line_with, Book, all_periods, charged_of, lines_for}
use Rattle.book_model.specs.Words.{by_line, plus_first, Period, Records, Naming, name_of, by_bytes}
use Rattle.book_model.specs.Words.{price_in, set_of, members, has, IsSound, AreHeld, AreAmong}
use Rattle.book_model.specs.Words.{identity_by, Priced}
use Rattle.book_model.proofs.SortedEntries.{read-entries}
use Rattle.book_model.proofs.Lemmas.{filter_map-map, is, pick-agree, by_line_total}
use Rattle.table_model.specs.Words.{line_read, AreFramed, IsApart, RecordRow, RecordTable}
use Rattle.table_model.specs.Words.{record_row, signed_names, line_entries, tables_of}
use Rattle.table_model.specs.PeriodLaws.{LinesFollow}
use Rattle.table_model.proofs.HeldPeriods.{one_of, all_held, all_apart}
use Rattle.table_model.proofs.LineNames.{lines_apart}
use Rattle.book_model.proofs.LineOrder.{name_ties}
use Rattle.table_model.proofs.PeriodPlaces.{at_place, slice_get-map}
use Rattle.table_model.proofs.PeriodReading.{read-period}
use Rattle.table_model.proofs.Restated.{row-found}
use Rattle.table_model.proofs.TableParts.{what_is}

-- a line as it is read, by the row of its record
abbrev line_from : List ℕ × Bool → Option RecordRow → Option Line
line_from entry found =
    option_map {T = RecordRow} {U = Line}
    (λ row. line_with entry.1 entry.0 (record_with row.data_bytes) row.priced) found

-- the same, from the records
abbrev read_from : RecordTable → List ℕ × Bool → Option Line
read_from records entry = line_from entry (get records entry.0)

-- a line has the name that it is stored under
its_name : (entry : List ℕ × Bool) (found : Option RecordRow) (line : Line)
    → line_from entry found ≡ Some line → line.name ≡ entry.0
its_name entry None line read = cc
its_name entry (Some row) line read =
    sym (ap (λ given. option_map_or (λ line. line.name) given entry.0) read)

-- so lines that tie in the order of reading are stored under one name
tells_names : (records : RecordTable) (a b : List ℕ × Bool) (y z : Line)
    → read_from records a ≡ Some y → read_from records b ≡ Some z
    → eq_by_cmp by_line y z ≡ true → a.0 ≡ b.0
tells_names records a b y z of_a of_b tied =
    sym (its_name a (get records a.0) y of_a)
    ∙ exact_bytes y.name z.name
    (name_ties (int_cmp y.priced.day z.priced.day) (by_bytes y.name z.name)
    (plus_first y.plus z.plus) tied)
    ∙ its_name b (get records b.0) z of_b

-- a record that is held has a price, and its row is stored under its name
pub held_row : (naming : Naming) (book : Book) → IsSound naming book → (bytes : List ℕ)
    → has book.held bytes ≡ true
    → (cost : Priced) × (price_in book.rulings bytes ≡ Some cost)
    × (get (tables_of naming book).records (name_of naming bytes)
    ≡ Some (record_row book.rulings (charged_of book) book.posted bytes cost))
held_row naming book sound bytes there =
    let cost = what_is (price_in book.rulings bytes) (sound.priced bytes there) in (
      cost.0,
      cost.1,
      row-found naming book sound (price_in book.rulings) (identity_by book.rulings)
          (charged_of book) bytes there cost.0 cost.1,
    )

module _ (naming : Naming) (book : Book) (sound : IsSound naming book)
    (framed : AreFramed book.held) where
  -- the records' rows
  abbrev records : RecordTable
  records = (tables_of naming book).records

  -- the line of a record that is held is read back
  one_line : (plus : Bool) (bytes : List ℕ) → has book.held bytes ≡ true
      → read_from records (name_of naming bytes, plus)
      ≡ option_map {T = Priced} {U = Line} (line_with plus (name_of naming bytes) bytes)
      (price_in book.rulings bytes)
  one_line plus bytes there =
      let row = held_row naming book sound bytes there in
      let line : List ℕ → Priced → Line = line_with plus (name_of naming bytes) in
      ap (line_from (name_of naming bytes, plus)) row.2
      ∙ ap (λ its. Some (line its row.0)) (sym (framed bytes there).is)
      ∙ ap (option_map {T = Priced} {U = Line} (line bytes)) (sym row.1)

  -- so are those of some records that are held,
  some_lines : (plus : Bool) (some : Records) → AreAmong some book.held
      → filter_map (read_from records) (signed_names naming plus some)
      ≡ lines_for naming book.rulings plus some
  some_lines plus some held =
      filter_map-map (read_from records) (λ bytes. (name_of naming bytes, plus)) (members some)
      ∙ pick-agree (λ bytes. read_from records (name_of naming bytes, plus)) _ some
      (λ bytes there. one_line plus bytes (held bytes there))

  -- and all of a period
  period_lines : (period : Period) → AreHeld book.held period
      → filter_map (read_from records) (line_entries naming period)
      ≡ lines_for naming book.rulings true period.added
      ++ lines_for naming book.rulings false period.taken
  period_lines period held =
      filter_map-append (read_from records) (signed_names naming true period.added)
      (signed_names naming false period.taken)
      ∙ (λ i. some_lines true period.added held.added i
      ++ some_lines false period.taken held.taken i)

-- the law
pub lines_follow : LinesFollow
lines_follow naming book number period sound lines is =
    let place = at_place naming book sound number period is in
    let all : List Period = all_periods book in
    let held = one_of (AreHeld book.held) all place.0 period (all_held naming book sound) place.2 in
    let apart = one_of IsApart all place.0 period (all_apart book lines) place.2 in
    let rows : List (List ℕ × Bool) = line_entries naming period in
    let its : RecordTable = (tables_of naming book).records in
    let in_order : List Line → List Line = λ read. members (set_of by_line read) in
    ap (λ es. in_order (filter_map (line_read its) es))
    (read-period by_bytes nat_list_cmp_total exact_bytes 1 place.0 number
    (map (line_entries naming) all) rows
    (slice_get-map (line_entries naming) all place.0 period place.2) place.1)
    ∙ ap in_order (filter_map-map (line_read its)
    (λ (row : List ℕ × Bool). ((number, row.0), row.1))
    (entries (from_entries {R = by_bytes} rows)))
    ∙ read-entries nat_list_cmp_total by_line_total (read_from its) (tells_names its) rows
    (lines_apart naming book sound period held apart)
    ∙ ap in_order (period_lines naming book sound lines.framed period held)
