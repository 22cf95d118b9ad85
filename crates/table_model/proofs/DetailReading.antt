-- The details of a period are read from the records that are counted: they are those of its days.
use Rattle.std.proofs.Common.{◌≡◌, ℕ, zero, suc, ◌≤◌, List, [], ◌∷◌, map, length, refl, sym}
use Rattle.std.proofs.Common.{ap, ◌∙◌, subst, true, false, true≢false, Bool, ◌&&◌, arith, Option}
use Rattle.std.proofs.Common.{Some, None, ℤ, filter, find, nat_le, not, slice_get, Contains}
use Rattle.std.proofs.Common.{filter_map, IsPermutation, option_map, length-append}
use Rattle.std.proofs.lemmas.List.Sorted.{Contains-permutation}
use Rattle.book_model.proofs.Std.{contains_key, entries, get, cons_option, IsStrictlySortedBy}
use Rattle.book_model.proofs.Std.{option_map_or, nat_tests, nat_list_cmp_total, IsPermutation-map}
use Rattle.book_model.proofs.Std.{IsPermutation-sym, exact_bytes, slice_get_past, slice_get_within}
use Rattle.book_model.specs.declared.detail.Detail.{Detail}
use Rattle.book_model.specs.Words.{Priced, AreAmong, Book, Naming, Period, Records, Rulings}
use Rattle.book_model.specs.Words.{all_periods, by_detail, comes_after, counted_of, day_of}
use Rattle.book_model.specs.Words.{detail_by, detail_of, details_asked, details_for, details_of}
use Rattle.book_model.specs.Words.{has, is_asked, is_counted, is_dated_after, is_dated_in}
use Rattle.book_model.specs.Words.{is_dated_through, members, name_of, next_after, no_event}
use Rattle.book_model.specs.Words.{open_period, period_of, price_in, those, is_day_of}
use Rattle.book_model.proofs.CountedDays.{AreInWindows}
use Rattle.book_model.proofs.Lemmas.{close_at, counted_at, by_detail_total, members_reordered}
use Rattle.book_model.proofs.Lemmas.{first_of, in_those, second_of, those-agree, members-those}
use Rattle.book_model.proofs.DetailLemmas.{details_rise, details_those, read_once}
use Rattle.book_model.proofs.DetailLemmas.{unsorted_distinct}
use Rattle.book_model.proofs.DetailOrder.{find_both, find_least, find_none, next_asked}
use Rattle.book_model.proofs.GivenLemmas.{contains_given, given_contains}
use Rattle.table_model.specs.Words.{RecordRow, Tables, status_of, tables_of, close_after}
use Rattle.table_model.specs.Words.{FindsLeast, IsDetail, detail_shown, IsReadable}
use Rattle.table_model.specs.DetailsRead.{details_kept, details_of_days, is_sought}
use Rattle.table_model.specs.ListLaws.{DetailsFollow}
use Rattle.table_model.proofs.CostLemmas.{day-price}
use Rattle.table_model.proofs.CountedHeld.{names_follow}
use Rattle.table_model.proofs.CountedReading.{in_counted, its_period, period_after, sets, sets_past}
use Rattle.table_model.proofs.LineReading.{held_row}
use Rattle.table_model.proofs.ListLemmas.{answered}
use Rattle.table_model.proofs.PeriodPlaces.{at_place}
use Rattle.table_model.proofs.RecordReading.{entry, entry_at, every_row}
use Rattle.table_model.proofs.RowsWhere.{AreMembers, first_entry, first_held, others_held}
use Rattle.table_model.proofs.RowsWhere.{passing_held, rows_where, those_among}
use Rattle.std.specs.FinMap as fin

-- ---- days

-- a detail is dated as its record
its_day : (naming : Naming) (rulings : Rulings) (bytes : List ℕ) (price : Option Priced)
    (detail : Detail) → price_in rulings bytes ≡ price
    → option_map (detail_by naming bytes) price ≡ Some detail → detail.priced.day ≡ day_of bytes
its_day naming rulings bytes None detail none is = cc
its_day naming rulings bytes (Some priced) detail some is =
    sym (ap (λ found. option_map_or (λ (detail : Detail). detail.priced.day) found priced.day) is)
    ∙ day-price rulings bytes priced some

-- so it is of a period's days where its record is dated in the period
pub dated_alike : (naming : Naming) (rulings : Rulings) (number : ℕ) (bytes : List ℕ)
    (detail : Detail) → detail_of naming rulings bytes ≡ Some detail
    → is_day_of number rulings detail.priced.day ≡ is_dated_in rulings number bytes
dated_alike naming rulings number bytes detail is =
    ap (is_day_of number rulings)
    (its_day naming rulings bytes (price_in rulings bytes) detail refl is)

-- what is not dated after a close is dated through it
pub through_close : (close : Option ℤ) (bytes : List ℕ) → is_dated_after close bytes ≡ false
    → option_map_or (λ day. is_dated_through day bytes) close true ≡ true
through_close None bytes early = absurd (true≢false early)
through_close (Some day) bytes early = ap not early

-- the day of a close by either word
same_close : (closes : List ℤ) (k : ℕ) → close_at closes k ≡ close_after k closes
same_close closes zero = refl
same_close closes (suc k) = refl

module _ (naming : Naming) (book : Book) (whole : IsReadable naming book) where
  abbrev tables : Tables
  tables = tables_of naming book

  -- what a period counts is dated in it
  pub in_windows : AreInWindows book
  in_windows k period bytes there counted =
      let closes : List ℤ = book.rulings.closes in
      let within = slice_get_within (all_periods book) k period there in
      let long = length-append book.past (open_period book ∷ []) in
      let count = whole.sound.closed in
      let early : k ≤ length closes = omega arith in
      let both : Some (period_after naming book whole k) ≡ Some period =
      sym (its_period naming book whole k early) ∙ there in
      let same : period_after naming book whole k ≡ period = cc in
      let now : Records = sets naming book whole (suc k) in
      let parts : (is_dated_after (close_after k closes) bytes && has now bytes) ≡ true =
      sym (in_counted (close_after k closes) (sets naming book whole k) now bytes)
      ∙ ap (λ (period : Period). has period.counted bytes) same ∙ counted in
      let late = first_of (is_dated_after (close_after k closes) bytes) (has now bytes) parts in
      let charged = second_of (is_dated_after (close_after k closes) bytes) (has now bytes) parts in
      let through : option_map_or (λ day. is_dated_through day bytes) (slice_get closes k) true
      ≡ true =
      elim (nat_le (suc k) (length closes)) as (λ b. nat_le (suc k) (length closes) ≡ b
      → option_map_or (λ day. is_dated_through day bytes) (slice_get closes k) true ≡ true) [
        | true ↦ λ closed.
            let inside : suc k ≤ length closes = grind (arith, nat_tests) in
            through_close (slice_get closes k) bytes
            (whole.past.dated (suc k) inside bytes
            (ap (λ records. has records bytes) (sym (sets_past naming book whole (suc k) inside))
            ∙ charged))
        | false ↦ λ open_one.
            let past : length closes ≤ k = grind (arith, nat_tests) in
            ap (λ close. option_map_or (λ day. is_dated_through day bytes) close true)
            (slice_get_past closes k past)
      ] refl in
      (λ i. is_dated_after (same_close closes k i) bytes
      && option_map_or (λ day. is_dated_through day bytes) (slice_get closes k) true)
      ∙ (λ i. late i && through i)

  -- ---- the records that are counted

  -- a record is counted where its name is
  abbrev counts : List ℕ → Bool
  counts bytes = contains_key tables.counted (name_of naming bytes)

  counted_held : AreAmong (counted_of book) book.held
  counted_held bytes there = in_those (is_counted book) book.held bytes there

  counted_those : those counts book.held ≡ counted_of book
  counted_those =
      those-agree counts (has (counted_of book)) book.held
      (λ bytes there. names_follow.counted naming book bytes whole.sound there)
      ∙ those_among (counted_of book) book.held counted_held

  counted_members : filter counts (members book.held) ≡ members (counted_of book)
  counted_members =
      sym (members-those nat_list_cmp_total exact_bytes counts book.held)
      ∙ ap members counted_those

  own_names : (a b : List ℕ) → has (counted_of book) a ≡ true → has (counted_of book) b ≡ true
      → name_of naming a ≡ name_of naming b → a ≡ b
  own_names a b one two same =
      whole.sound.named a b (counted_held a one) (counted_held b two) same

  -- a row shows the detail of its record
  shown_is : (bytes : List ℕ) (priced : Priced) → has book.held bytes ≡ true
      → detail_shown (entry_at naming book whole.sound bytes priced) ≡ detail_by naming bytes priced
  shown_is bytes priced there =
      ap (λ its. record (detail_by naming its priced) { name = name_of naming bytes })
      (sym (whole.lines.framed bytes there).is)

  -- so rows show the details of their records
  all_shown : (ks : List (List ℕ)) → AreMembers book.held ks
      → map detail_shown (filter_map (entry naming book whole.sound) ks)
      ≡ filter_map (detail_of naming book.rulings) ks
  all_shown [] held = refl
  all_shown (k ∷ ks) held =
      let there = first_held book.held k ks held in
      let first = first_entry naming book whole.sound (status_of book) whole.sound.priced k ks held in
      let rest = all_shown ks (others_held book.held k ks held) in
      ap (map detail_shown) first.2
      ∙ (λ i. shown_is k first.0 there i ∷ rest i)
      ∙ ap (λ price. cons_option (option_map (detail_by naming k) price)
      (filter_map (detail_of naming book.rulings) ks)) (sym first.1)

  -- the details that are kept are those of what is counted
  pub kept_are : details_kept tables ≡ details_for naming book.rulings (counted_of book)
  kept_are =
      let rows : List (List ℕ × RecordRow) =
      filter (λ (row : List ℕ × RecordRow). contains_key tables.counted row.0)
      (entries tables.records) in
      let made : List (List ℕ × RecordRow) =
      filter_map (entry naming book whole.sound) (filter counts (members book.held)) in
      let unsorted : List Detail =
      filter_map (detail_of naming book.rulings) (members (counted_of book)) in
      let same : IsPermutation (map detail_shown rows) unsorted =
      subst (IsPermutation (map detail_shown rows))
      (all_shown (filter counts (members book.held)) (passing_held counts book.held)
      ∙ ap (filter_map (detail_of naming book.rulings)) counted_members)
      (IsPermutation-map detail_shown rows made
      (rows_where naming book whole.sound (status_of book) whole.sound.priced
      (λ (row : List ℕ × RecordRow). contains_key tables.counted row.0) counts
      (λ bytes cost costs. refl))) in
      members_reordered by_detail_total (map detail_shown rows) unsorted same
      (unsorted_distinct naming book.rulings (counted_of book) own_names)

  -- ---- periods

  -- those of a period are those of its days
  pub days_are : (number : ℕ) (period : Period) → period_of book number ≡ Some period
      → details_of_days number book.rulings tables ≡ details_of naming book.rulings period
  days_are number period is =
      let place = at_place naming book whole.sound number period is in
      let at = place.1 in
      let own : number ≡ suc place.0 = omega arith in
      let counted : period.counted ≡ those (is_dated_in book.rulings number) (counted_of book) =
      counted_at naming book whole.sound whole.in_order in_windows place.0 period place.2
      ∙ ap (λ n. those (is_dated_in book.rulings n) (counted_of book)) (sym own) in
      ap (filter (λ detail. is_day_of number book.rulings detail.priced.day)) kept_are
      ∙ sym (details_those naming book.rulings (counted_of book) own_names
      (is_dated_in book.rulings number)
      (λ detail. is_day_of number book.rulings detail.priced.day)
      (dated_alike naming book.rulings number))
      ∙ ap (details_for naming book.rulings) (sym counted)

  -- ---- what is found first

  -- each of them is that of a row that is counted,
  kept_there : (detail : Detail) → Contains (details_kept tables) detail → IsDetail tables detail
  kept_there detail among =
      let sorted : List Detail = details_for naming book.rulings (counted_of book) in
      let give : List ℕ → Option Detail = detail_of naming book.rulings in
      let its = contains_given give (members (counted_of book)) detail
      (Contains-permutation sorted (filter_map give (members (counted_of book))) detail
      (read_once naming book.rulings (counted_of book) own_names)
      (subst (λ details. Contains details detail) kept_are among)) in
      let counted = fin.contains_key-keys (counted_of book) its.0 ∙ its.1 in
      let held = counted_held its.0 counted in
      let row = held_row naming book whole.sound its.0 held in
      let made : detail_by naming its.0 row.0 ≡ detail =
      some_is (ap (option_map (detail_by naming its.0)) (sym row.1) ∙ its.2) in
      let named : name_of naming its.0 ≡ detail.name =
      ap (λ (detail : Detail). detail.name) made in
      record {
        row = (entry_at naming book whole.sound its.0 row.0).1;
        held = ap (get tables.records) (sym named) ∙ row.2;
        counted = ap (contains_key tables.counted) (sym named)
            ∙ names_follow.counted naming book its.0 whole.sound held ∙ counted;
        shown = ap (λ name. detail_shown (name, (entry_at naming book whole.sound its.0 row.0).1))
            (sym named)
            ∙ shown_is its.0 row.0 held ∙ made;
      }
    where
      some_is : {one other : Detail} → Some one ≡ Some other → one ≡ other
      some_is is = cc

  -- and each such row has one
  row_kept : (name : List ℕ) (row : RecordRow) → get tables.records name ≡ Some row
      → contains_key tables.counted name ≡ true
      → Contains (details_kept tables) (detail_shown (name, row))
  row_kept name row =
      every_row naming book whole.sound
      (λ one. contains_key tables.counted one.0 ≡ true
      → Contains (details_kept tables) (detail_shown one))
      (λ bytes priced held price counted.
      let sorted : List Detail = details_for naming book.rulings (counted_of book) in
      let give : List ℕ → Option Detail = detail_of naming book.rulings in
      let unsorted : List Detail = filter_map give (members (counted_of book)) in
      let there = sym (names_follow.counted naming book bytes whole.sound held) ∙ counted in
      let its = given_contains give (members (counted_of book)) bytes (detail_by naming bytes priced)
      (sym (fin.contains_key-keys (counted_of book) bytes) ∙ there)
      (ap (option_map (detail_by naming bytes)) price) in
      subst (λ details. Contains details (detail_shown (entry_at naming book whole.sound bytes priced)))
      (sym kept_are)
      (subst (Contains sorted) (sym (shown_is bytes priced held))
      (Contains-permutation unsorted sorted (detail_by naming bytes priced)
      (IsPermutation-sym sorted unsorted
      (read_once naming book.rulings (counted_of book) own_names)) its)))
      name row

  there_kept : (detail : Detail) → IsDetail tables detail → Contains (details_kept tables) detail
  there_kept detail it =
      subst (Contains (details_kept tables)) it.shown
      (row_kept detail.name it.row it.held it.counted)

  -- so the first that passes a test is the least that does
  least_found : (test : Detail → Bool) (found : Option Detail) → FindsLeast test tables found
      → find test (details_kept tables) ≡ found
  least_found test None none =
      find_none test (details_kept tables) (λ detail among. none detail (kept_there detail among))
  least_found test (Some detail) least =
      find_least test (details_kept tables) detail
      (subst (IsStrictlySortedBy by_detail) (sym kept_are)
      (details_rise naming book.rulings (counted_of book)))
      (there_kept detail least.there) least.passes
      (λ other among passes. least.least other (kept_there other among) passes)

  pub next_found : (number : ℕ) (centre : Option (List ℕ)) (last found : Option Detail)
      → FindsLeast (is_sought number centre last book.rulings) tables found
      → next_after last (details_asked centre (details_of_days number book.rulings tables)) ≡ found
  next_found number centre last found finds =
      sym (next_asked centre last (details_of_days number book.rulings tables))
      ∙ sym (find_both (λ detail. is_day_of number book.rulings detail.priced.day)
      (λ detail. is_asked centre detail && comes_after last detail) (details_kept tables))
      ∙ least_found (is_sought number centre last book.rulings) found finds

-- the law
pub details_follow : DetailsFollow
details_follow = record {
  details = λ naming book number centre whole.
      ap no_event (answered book whole.sound.closed number
      (λ period. details_asked centre (details_of naming book.rulings period))
      (details_asked centre (details_of_days number book.rulings (tables_of naming book)))
      (λ period is. ap (details_asked centre) (days_are naming book whole number period is)));
  next = λ naming book number centre last whole.
      ap no_event (answered book whole.sound.closed number
      (λ period. next_after last (details_asked centre (details_of naming book.rulings period)))
      (next_after last
      (details_asked centre (details_of_days number book.rulings (tables_of naming book))))
      (λ period is. ap (λ details. next_after last (details_asked centre details))
      (days_are naming book whole number period is)));
  found = λ naming book number centre last found whole finds.
      ap no_event (answered book whole.sound.closed number
      (λ period. next_after last (details_asked centre (details_of naming book.rulings period)))
      found
      (λ period is.
      sym (next_found naming book whole number centre last found finds)
      ∙ ap (λ details. next_after last (details_asked centre details))
      (days_are naming book whole number period is)));
}
