-- The rows of a readable book that say that they are counted are those of the records that are, and
-- so are their names.
use Rattle.std.proofs.Common.{◌≡◌, ◌∙◌, ℕ, suc, ◌-◌, ◌≤◌, List, length, sym, ap, subst, true, ◌&&◌}
use Rattle.std.proofs.Common.{Bool, arith, map, ℤ, filter, filter_map}
use Rattle.std.specs.List.Sorted.{IsPermutation}
use Rattle.std.specs.FinMap.{from_entries}
use Rattle.std.proofs.lemmas.Bool.{eq-eqb, lt-ltb}
use Rattle.std.proofs.lemmas.Cmp.{nat_list_cmp_total}
use Rattle.std.proofs.lemmas.Map.Lookups.{exact_bytes}
use Rattle.book_model.specs.Words.{Book, Naming, Records, Rulings, charged_of, counted_of, day_of}
use Rattle.book_model.specs.Words.{has, is_counted, is_dated_in, members, name_of, open_by}
use Rattle.book_model.proofs.CountedDays.{counted_at}
use Rattle.book_model.proofs.RecordSets.{has_those, in_those}
use Rattle.book_model.proofs.SetChanges.{those-agree}
use Rattle.book_model.proofs.SetLemmas.{members-those}
use Rattle.table_model.specs.BookIn.{close_after}
use Rattle.table_model.specs.Readable.{IsReadable}
use Rattle.table_model.specs.Tables.{Tables}
use Rattle.table_model.specs.TablesOf.{status_of, tables_of}
use Rattle.table_model.specs.DisputesRead.{NamedRow}
use Rattle.table_model.proofs.CostLemmas.{day-price}
use Rattle.table_model.proofs.CountedReading.{in_counted, its_period, period_after, sets}
use Rattle.table_model.proofs.DetailReading.{in_windows}
use Rattle.table_model.proofs.RecordReading.{entry}
use Rattle.table_model.proofs.RowsWhere.{rows_where, those_among}
use Rattle.table_model.proofs.CountedFirst.{names_alone, names_counted}
use Rattle.consistent_tables.specs.Consistent.{charged_back, counted_entries, is_counted_row, ruled}
use Rattle.consistent_tables.specs.DueRows.{period_from}
use Rattle.consistent_tables.proofs.ChainTold.{all_later, later_periods, own, own_begun}
use Rattle.consistent_tables.proofs.ChainTold.{own_numbered, ruled_back, told}
use Rattle.consistent_tables.proofs.ClosePeriods.{after_close, dated_is}

module _ (naming : Naming) (book : Book) (whole : IsReadable naming book) where
  abbrev tables : Tables
  tables = tables_of naming book

  abbrev charged : Records
  charged = charged_of book

  -- whether a record was charged before the periods after that of a day
  abbrev was_charged : Rulings → List ℕ → ℤ → Bool
  was_charged rulings bytes day =
      charged_back tables (name_of naming bytes)
      (open_by rulings - period_from 1 rulings.closes day) (has charged bytes)

  -- and after that of its own
  abbrev is_its : List ℕ → Bool
  is_its bytes = was_charged (ruled tables) bytes (day_of bytes)

  module _ (bytes : List ℕ) (there : has book.held bytes ≡ true) where
    -- what is charged at the end of the period of its day is counted
    counted_there : (k : ℕ) → suc k ≡ own naming book whole bytes there
        → has (sets naming book whole (suc k)) bytes ≡ has (counted_of book) bytes
    counted_there k numbered =
        let begun = own_begun naming book whole bytes there in
        let within : k ≤ length book.rulings.closes = omega (arith, numbered, begun) in
        let now : Records = sets naming book whole (suc k) in
        let late = after_close bytes book.rulings.closes k whole.in_order within
        ∙ lt-ltb k (own naming book whole bytes there) (omega (arith, numbered)) in
        let dated = dated_is book.rulings bytes k whole.in_order within
        ∙ eq-eqb (suc k) (own naming book whole bytes there) numbered in
        sym (in_counted (close_after k book.rulings.closes) (sets naming book whole k) now bytes
        ∙ ap (λ b. b && has now bytes) late)
        ∙ ap (λ records. has records bytes)
        (counted_at naming book whole.sound whole.in_order (in_windows naming book whole) k
        (period_after naming book whole k) (its_period naming book whole k within))
        ∙ has_those (is_dated_in book.rulings (suc k)) (counted_of book) bytes
        ∙ ap (λ b. b && has (counted_of book) bytes) dated

    -- so its row says whether it is counted
    its_counted : is_its bytes ≡ has (counted_of book) bytes
    its_counted =
        let number : ℕ = own naming book whole bytes there in
        let some = own_numbered naming book whole bytes there in
        let numbered : suc (number - 1) ≡ number = omega (arith, some) in
        ap (λ rulings. was_charged rulings bytes (day_of bytes)) (ruled_back naming book whole)
        ∙ told naming book whole bytes there (later_periods naming book whole bytes there) number
        (all_later naming book whole bytes there) (omega arith)
        ∙ ap (λ m. has (sets naming book whole m) bytes) (sym numbered)
        ∙ counted_there (number - 1) numbered

  -- the records whose rows say so
  its_members : filter is_its (members book.held) ≡ members (counted_of book)
  its_members =
      sym (members-those nat_list_cmp_total exact_bytes is_its book.held)
      ∙ ap members (those-agree is_its (has (counted_of book)) book.held its_counted
      ∙ those_among (counted_of book) book.held
      (λ bytes counted. in_those (is_counted book) book.held bytes counted))

  -- so the rows that say so are those of what is counted
  pub rows_counted : IsPermutation (counted_entries tables)
      (filter_map (entry naming book whole.sound) (members (counted_of book)))
  rows_counted =
      subst (λ ks. IsPermutation (counted_entries tables)
      (filter_map (entry naming book whole.sound) ks)) its_members
      (rows_where naming book whole.sound (status_of book) whole.sound.priced
      (is_counted_row tables) is_its
      (λ bytes cost costs. ap (was_charged (ruled tables) bytes)
      (day-price book.rulings bytes cost costs)))

-- and so are the names that are counted
pub counted_due : (naming : Naming) (book : Book) (whole : IsReadable naming book)
    → (tables_of naming book).counted
    ≡ from_entries (map {B = List ℕ × Unit {0}} (λ entry. (entry.0, tt))
    (counted_entries (tables_of naming book)))
counted_due naming book whole =
    let rows : List NamedRow = counted_entries (tables_of naming book) in
    sym (names_counted naming book whole rows (rows_counted naming book whole))
    ∙ sym (names_alone (λ (row : NamedRow). row.0) rows)
