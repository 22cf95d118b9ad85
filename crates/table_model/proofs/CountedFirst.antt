-- Whether a record is counted at all is told by its mark and by the first of its lines: all of them
-- are in periods later than that of its day. So rows and lines tell the names that are counted.
use Rattle.std.proofs.Common.{◌≡◌, ℕ, zero, suc, ◌+◌, ◌-◌, ◌≤◌, List, [], ◌∷◌, length, refl, sym}
use Rattle.std.proofs.Common.{ap, ◌∙◌, subst, true, false, true≢false, Bool, cond, not, ◌&&◌, Some}
use Rattle.std.proofs.Common.{None, arith, map, filter, filter_map, IsPermutation}
use Rattle.std.proofs.lemmas.Bool.{and_right}
use Rattle.book_model.proofs.Std.{entries, from_entries, get, get-from_entries, insert}
use Rattle.book_model.proofs.Std.{option_map_or, option_or, eq_by_cmp, false_from_ne_true}
use Rattle.book_model.proofs.Std.{nat_list_cmp_total, IsPermutation-map, list_any-IsPermutation}
use Rattle.book_model.proofs.Std.{exact_bytes}
use Rattle.book_model.specs.Words.{Book, Naming, Period, Records, all_periods, by_bytes, charged_of}
use Rattle.book_model.specs.Words.{counted_of, has, is_counted, is_dated_after, is_dated_in}
use Rattle.book_model.specs.Words.{is_dated_through, members, name_of, set_of, without, through_of}
use Rattle.book_model.proofs.Lemmas.{counted_at, current_is, else_find, has_those, in_those}
use Rattle.book_model.proofs.Lemmas.{those-agree, members-those}
use Rattle.book_model.proofs.CountedDays.{has_counted_of}
use Rattle.book_model.proofs.SetLemmas.{set_of-same}
use Rattle.table_model.specs.Words.{charged_before_lines, first_line, NamedRow, numbered}
use Rattle.table_model.specs.Words.{IsReadable, CountedTable, Tables, line_entries, status_of}
use Rattle.table_model.specs.Words.{tables_of, close_after}
use Rattle.table_model.proofs.CountedReading.{charged_back, find_line, in_counted, its_held}
use Rattle.table_model.proofs.CountedReading.{its_period, last_after, period_after, sets, sets_past}
use Rattle.table_model.proofs.CountedReading.{through_is}
use Rattle.table_model.proofs.DetailReading.{in_windows, through_close}
use Rattle.table_model.proofs.NumberedLemmas.{by_period_total}
use Rattle.table_model.proofs.PeriodPlaces.{slice_get-map}
use Rattle.table_model.proofs.PeriodReading.{find-at}
use Rattle.table_model.proofs.RecordReading.{entry}
use Rattle.table_model.proofs.RowsWhere.{AreMembers, first_entry, others_held, rows_where}
use Rattle.table_model.proofs.RowsWhere.{those_among}
use Rattle.std.specs.FinMap as fin

-- no line is found on either side
no_side : (added taken : Bool) → added ≡ false → taken ≡ false
    → else_find (cond added (Some true) None) (cond taken (Some false) None) ≡ None
no_side true taken one other = absurd (true≢false one)
no_side false true one other = absurd (true≢false other)
no_side false false one other = refl

module _ (naming : Naming) (book : Book) (whole : IsReadable naming book) (bytes : List ℕ)
    (there : has book.held bytes ≡ true) where
  -- a record that is dated after a close was not charged by it
  not_yet : (k : ℕ) → k ≤ length book.rulings.closes
      → is_dated_after (close_after k book.rulings.closes) bytes ≡ true
      → has (sets naming book whole k) bytes ≡ false
  not_yet k within late =
      ap (λ records. has records bytes) (sets_past naming book whole k within)
      ∙ false_from_ne_true (has (whole.past.charged k) bytes) (λ was.
      true≢false (sym late ∙ whole.past.dated k within bytes was))

  -- so it has no line in the period after the close
  line_none : (k : ℕ) → k ≤ length book.rulings.closes
      → is_dated_after (close_after k book.rulings.closes) bytes ≡ true
      → get (tables_of naming book).lines (suc k, name_of naming bytes) ≡ None
  line_none k within late =
      let own : Period → List (List ℕ × Bool) = line_entries naming in
      let next : suc k ≡ 1 + k = omega arith in
      let period : Period = period_after naming book whole k in
      let before : Records = sets naming book whole k in
      let now : Records = sets naming book whole (suc k) in
      let added : has period.added bytes ≡ false =
      has_those (λ b. not (is_dated_after (close_after k book.rulings.closes) b))
      (without now before) bytes
      ∙ ap (λ b. not b && has (without now before) bytes) late in
      let taken : has period.taken bytes ≡ false =
      has_those (λ b. not (has now b)) before bytes
      ∙ and_right (not (has now bytes)) (has before bytes) (not_yet k within late) in
      get-from_entries (by_period_total by_bytes nat_list_cmp_total)
      (numbered 1 (map own (all_periods book))) (suc k, name_of naming bytes)
      ∙ find-at by_bytes (suc k, name_of naming bytes) 1 k
      (map own (all_periods book)) (own period)
      (slice_get-map own (all_periods book) k period (its_period naming book whole k within)) next
      ∙ find_line naming book whole.sound bytes there period (its_held naming book whole k within)
      ∙ no_side (has period.added bytes) (has period.taken bytes) added taken

  -- what is charged in the period of its day is counted
  counted_in_its : (k : ℕ) → k ≤ length book.rulings.closes
      → is_dated_after (close_after k book.rulings.closes) bytes ≡ true
      → is_dated_after (close_after (suc k) book.rulings.closes) bytes ≡ false
      → has (sets naming book whole (suc k)) bytes ≡ has (counted_of book) bytes
  counted_in_its k within late early =
      let period : Period = period_after naming book whole k in
      let place : suc k - 1 ≡ k = omega arith in
      let dated : is_dated_in book.rulings (suc k) bytes ≡ true =
      (λ i. is_dated_after ((ap (λ k. through_of k book.rulings) place
      ∙ through_is k book.rulings) i) bytes
      && option_map_or (λ day. is_dated_through day bytes) (through_is (suc k) book.rulings i) true)
      ∙ (λ i. late i && through_close (close_after (suc k) book.rulings.closes) bytes early i) in
      sym (in_counted (close_after k book.rulings.closes) (sets naming book whole k)
      (sets naming book whole (suc k)) bytes
      ∙ ap (λ b. b && has (sets naming book whole (suc k)) bytes) late)
      ∙ ap (λ records. has records bytes)
      (counted_at naming book whole.sound whole.in_order (in_windows naming book whole) k period
      (its_period naming book whole k within))
      ∙ has_those (is_dated_in book.rulings (suc k)) (counted_of book) bytes
      ∙ ap (λ b. b && has (counted_of book) bytes) dated

  -- what is dated after the last close is counted where it is charged now
  counted_now : is_dated_after (close_after (length book.rulings.closes) book.rulings.closes) bytes
      ≡ true
      → has (charged_of book) bytes ≡ has (counted_of book) bytes
  counted_now late =
      sym (has_counted_of naming book whole.sound bytes
      ∙ current_is naming book whole.sound bytes (charged_of book)
      (ap (λ close. is_dated_after close bytes) (last_after book.rulings.closes) ∙ late))

  -- where there is no line in the next period, the first is one of those after it
  past_none : (k later : ℕ) → k ≤ length book.rulings.closes
      → is_dated_after (close_after k book.rulings.closes) bytes ≡ true
      → first_line (tables_of naming book).lines (name_of naming bytes) (suc k) (suc later)
      ≡ first_line (tables_of naming book).lines (name_of naming bytes) (suc (suc k)) later
  past_none k later within late =
      ap (λ line. option_or line
      (first_line (tables_of naming book).lines (name_of naming bytes) (suc (suc k)) later))
      (line_none k within late)

  -- whether it is counted, from the period after some closes on, after all of which it is dated
  pub counted_from : (later k : ℕ) → k + later ≡ length book.rulings.closes
      → is_dated_after (close_after k book.rulings.closes) bytes ≡ true
      → charged_before_lines
      (first_line (tables_of naming book).lines (name_of naming bytes) (suc k) (suc later))
      (has (charged_of book) bytes)
      ≡ has (counted_of book) bytes
  counted_from zero k place late =
      let last : k ≡ length book.rulings.closes = omega arith in
      ap (λ line. charged_before_lines line (has (charged_of book) bytes))
      (past_none k 0 (omega arith) late)
      ∙ counted_now (ap (λ k. is_dated_after (close_after k book.rulings.closes) bytes) (sym last)
      ∙ late)
  counted_from (suc later) k place late =
      ap (λ line. charged_before_lines line (has (charged_of book) bytes))
      (past_none k (suc later) (omega arith) late)
      ∙ elim (is_dated_after (close_after (suc k) book.rulings.closes) bytes)
      as (λ b. is_dated_after (close_after (suc k) book.rulings.closes) bytes ≡ b
      → charged_before_lines
      (first_line (tables_of naming book).lines (name_of naming bytes) (suc (suc k)) (suc later))
      (has (charged_of book) bytes)
      ≡ has (counted_of book) bytes) [
        | true ↦ λ still. counted_from later (suc k) (omega arith) still
        | false ↦ λ early.
            charged_back naming book whole bytes there (suc later) (suc k) (omega arith)
            (λ _. early)
            ∙ counted_in_its k (omega arith) late early
      ] refl

  -- so its mark and the first of all its lines tell it
  pub counted_first : (last : ℕ) → last ≡ length book.rulings.closes + 1
      → charged_before_lines
      (first_line (tables_of naming book).lines (name_of naming bytes) 1 last)
      (has (charged_of book) bytes)
      ≡ has (counted_of book) bytes
  counted_first last is =
      let own : last ≡ suc (length book.rulings.closes) = omega arith in
      ap (λ last. charged_before_lines
      (first_line (tables_of naming book).lines (name_of naming bytes) 1 last)
      (has (charged_of book) bytes)) own
      ∙ counted_from (length book.rulings.closes) 0 (omega arith) refl

-- the table of some names, with nothing under them, is their set
pub names_alone : {X : Type 0} (name : X → List ℕ) (xs : List X)
    → from_entries {R = by_bytes} (map {B = List ℕ × Unit {0}} (λ x. (name x, tt)) xs)
    ≡ set_of by_bytes (map name xs)
names_alone name [] = refl
names_alone name (x ∷ xs) =
    ap (λ (names : CountedTable). insert names (name x) tt) (names_alone name xs)

module _ (naming : Naming) (book : Book) (whole : IsReadable naming book) where
  abbrev tables : Tables
  tables = tables_of naming book

  -- whether a row and the lines tell that its record is counted; and whether the record's own do
  abbrev is_told : NamedRow → Bool
  is_told entry =
      charged_before_lines (first_line tables.lines entry.0 1 (length book.rulings.closes + 1))
      entry.1.charged

  abbrev is_its : List ℕ → Bool
  is_its bytes =
      charged_before_lines
      (first_line tables.lines (name_of naming bytes) 1 (length book.rulings.closes + 1))
      (has (charged_of book) bytes)

  -- the records of which they do are those that are counted
  its_members : filter is_its (members book.held) ≡ members (counted_of book)
  its_members =
      sym (members-those nat_list_cmp_total exact_bytes is_its book.held)
      ∙ ap members (those-agree is_its (has (counted_of book)) book.held
      (λ bytes there.
      counted_first naming book whole bytes there (length book.rulings.closes + 1) refl)
      ∙ those_among (counted_of book) book.held
      (λ bytes there. in_those (is_counted book) book.held bytes there))

  -- the rows of records have their names
  own_names : (ks : List (List ℕ)) → AreMembers book.held ks
      → map (λ (row : NamedRow). row.0) (filter_map (entry naming book whole.sound) ks)
      ≡ map (name_of naming) ks
  own_names [] held = refl
  own_names (k ∷ ks) held =
      let first =
      first_entry naming book whole.sound (status_of book) whole.sound.priced k ks held in
      ap (map (λ (row : NamedRow). row.0)) first.2
      ∙ ap (λ names. name_of naming k ∷ names) (own_names ks (others_held book.held k ks held))

  -- so rows of the records that are counted have the names that are
  pub names_counted : (rows : List NamedRow)
      → IsPermutation rows
      (filter_map (entry naming book whole.sound) (members (counted_of book)))
      → set_of by_bytes (map (λ (row : NamedRow). row.0) rows) ≡ tables.counted
  names_counted rows counted =
      let ks : List (List ℕ) = members (counted_of book) in
      let told : List (List ℕ) = map (λ (row : NamedRow). row.0) rows in
      let names : List (List ℕ) = map (name_of naming) ks in
      let same : IsPermutation told names =
      subst (IsPermutation told)
      (own_names ks (λ bytes among.
      in_those (is_counted book) book.held bytes (fin.contains_key-keys (counted_of book) bytes ∙ among)))
      (IsPermutation-map (λ (row : NamedRow). row.0) rows
      (filter_map (entry naming book whole.sound) ks) counted) in
      set_of-same nat_list_cmp_total exact_bytes told names
      (λ q. list_any-IsPermutation (eq_by_cmp by_bytes q) told names same)
      ∙ sym (names_alone (name_of naming) ks)

  -- and so do the rows of which they tell it
  pub names_told : set_of by_bytes
      (map (λ (row : NamedRow). row.0) (filter is_told (entries tables.records)))
      ≡ tables.counted
  names_told =
      let rows : List NamedRow = filter is_told (entries tables.records) in
      names_counted rows
      (subst (λ ks. IsPermutation rows (filter_map (entry naming book whole.sound) ks)) its_members
      (rows_where naming book whole.sound (status_of book) whole.sound.priced is_told is_its
      (λ bytes cost costs. refl)))
