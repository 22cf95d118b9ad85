-- What a period counts, and what it would have cost by another tariff, is read from the rows.
use Rattle.std.proofs.Common.{◌≡◌, ℕ, suc, ◌-◌, ◌≤◌, List, [], ◌∷◌, map, length, sym, ap, ◌∙◌}
use Rattle.std.proofs.Common.{subst, true, Bool, ◌&&◌, Option, Some, arith, filter, filter_map}
use Rattle.std.proofs.Common.{length-append, map-id}
use Rattle.book_model.proofs.Std.{entries, nat_list_cmp_total, length_permutation}
use Rattle.book_model.proofs.Std.{exact_bytes, map-map, slice_get_within}
use Rattle.book_model.specs.Words.{Priced, AreAmong, Book, Naming, Period, all_periods}
use Rattle.book_model.specs.Words.{by_bytes, charged_of, has, members, most_held, name_of, no_event}
use Rattle.book_model.specs.Words.{open_by, open_period, period_of, price_by, price_in}
use Rattle.book_model.specs.Words.{rows_if_room, set_of, those, what_if_answer, is_day_of}
use Rattle.book_model.proofs.RowLemmas.{rows_if_room-alike}
use Rattle.book_model.proofs.Lemmas.{those-agree, members-those, set_of-alike, SumsAlike, map-alike}
use Rattle.table_model.specs.Words.{RecordRow, Tables, status_of, tables_of, row_record}
use Rattle.table_model.specs.Words.{charged_before_lines, counted_rows, first_line, is_row_counted}
use Rattle.table_model.specs.Words.{row_costs, IsReadable}
use Rattle.table_model.proofs.CostLemmas.{day-price}
use Rattle.table_model.proofs.PeriodPlaces.{at_place}
use Rattle.table_model.proofs.RowsWhere.{rows_where, those_among}
use Rattle.table_model.specs.ListLaws.{CountedFollows}
use Rattle.table_model.proofs.CountedReading.{counted_back, is_record_counted, its_period}
use Rattle.table_model.proofs.CountedReading.{period_after}
use Rattle.table_model.proofs.ListLemmas.{held_in, told}
use Rattle.table_model.proofs.PriceSums.{given_few}
use Rattle.table_model.proofs.RecordReading.{all_entries, all_permuted, entry, entry_at, records_of}
use Rattle.table_model.proofs.SetReading.{permuted-alike, set_of-members}
use Rattle.std.specs.FinMap as fin

module _ (naming : Naming) (book : Book) (whole : IsReadable naming book) (number : ℕ)
    (period : Period) (is : period_of book number ≡ Some period) where
  abbrev tables : Tables
  tables = tables_of naming book

  abbrev counts : List ℕ → Bool
  counts = is_record_counted naming book number

  -- the test says which records that are held the period counts
  counts_right : (bytes : List ℕ) → has book.held bytes ≡ true
      → counts bytes ≡ has period.counted bytes
  counts_right bytes there =
      let place = at_place naming book whole.sound number period is in
      let at = place.1 in
      let within = slice_get_within (all_periods book) place.0 period place.2 in
      let long = length-append book.past (open_period book ∷ []) in
      let count = whole.sound.closed in
      let early : place.0 ≤ length book.rulings.closes = omega arith in
      let own : number ≡ suc place.0 = omega arith in
      let both : Some (period_after naming book whole place.0) ≡ Some period =
      sym (its_period naming book whole place.0 early) ∙ place.2 in
      let same : period_after naming book whole place.0 ≡ period = cc in
      ap (λ number. is_record_counted naming book number bytes) own
      ∙ counted_back naming book whole bytes there place.0 early
      ∙ ap (λ (period : Period). has period.counted bytes) same

  -- what the period counts is held
  counted_held : AreAmong period.counted book.held
  counted_held = (held_in naming book whole.sound number period is).counted

  -- so of what is held the test picks that
  counted_those : those counts book.held ≡ period.counted
  counted_those =
      those-agree counts (has period.counted) book.held counts_right
      ∙ those_among period.counted book.held counted_held

  -- a test of a row is one of its record
  row_test : (bytes : List ℕ) (priced : Priced) → price_in book.rulings bytes ≡ Some priced
      → is_row_counted number book.rulings tables.lines
      (entry_at naming book whole.sound bytes priced)
      ≡ counts bytes
  row_test bytes priced price =
      ap (λ day. is_day_of number book.rulings day
      && charged_before_lines (first_line tables.lines (name_of naming bytes) (suc number)
      (open_by book.rulings - number)) (has (charged_of book) bytes))
      (day-price book.rulings bytes priced price)

  -- the rows that are counted, as what is made of their records
  module _ {X : Type 0} (make : List ℕ → X) where
    abbrev made : List ℕ × RecordRow → X
    made row = make (row_record row.1)

    pub made_alike : SumsAlike (map made (counted_rows number book.rulings tables))
        (map make (members period.counted))
    made_alike =
        let test : List ℕ × RecordRow → Bool =
        is_row_counted number book.rulings tables.lines in
        let of_record : List ℕ → Option (List ℕ × RecordRow) = entry naming book whole.sound in
        let among = λ (bytes : List ℕ) (on : _).
        counted_held bytes (fin.contains_key-keys period.counted bytes ∙ on) in
        subst (SumsAlike (map made (filter test (entries tables.records))))
        (ap (λ ks. map made (filter_map of_record ks))
        (sym (members-those nat_list_cmp_total exact_bytes counts book.held)
        ∙ ap members counted_those)
        ∙ sym (map-map make (λ (row : List ℕ × RecordRow). row_record row.1)
        (filter_map of_record (members period.counted)))
        ∙ ap (map make) (records_of naming book whole.sound whole.lines.framed
        (members period.counted) among))
        (map-alike made
        (permuted-alike (filter test (entries tables.records))
        (filter_map of_record (filter counts (members book.held)))
        (rows_where naming book whole.sound (status_of book) whole.sound.priced test counts
        row_test)))

-- there are no more rows of records than records may be held
few_rows : (naming : Naming) (book : Book) → IsReadable naming book
    → length (entries (tables_of naming book).records) ≤ most_held
few_rows naming book whole =
    let all = all_entries naming book whole.sound in
    let same = length_permutation (entries (tables_of naming book).records) all
    (all_permuted naming book whole.sound) in
    let given = given_few (entry naming book whole.sound) (members book.held) in
    let held = whole.limits.held in
    omega (arith, same, given, held)

-- the law
pub counted_follows : CountedFollows
counted_follows = record {
  counted = λ naming book number period whole is.
      set_of-alike nat_list_cmp_total exact_bytes
      (made_alike naming book whole number period is (λ bytes. bytes))
      ∙ ap (set_of by_bytes) (map-id (members period.counted))
      ∙ set_of-members period.counted;
  what_if = λ naming book number terms whole.
      ap no_event (told book whole.sound.closed number (what_if_answer terms)
      (rows_if_room (row_costs terms (counted_rows number book.rulings (tables_of naming book))))
      (λ period is. rows_if_room-alike
      (made_alike naming book whole number period is (price_by terms))));
  few = few_rows;
}
