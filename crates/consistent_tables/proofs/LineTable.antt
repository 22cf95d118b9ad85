-- The lines of consistent tables are those of the book that they determine.
use Rattle.std.proofs.Common.{◌≡◌, ◌∙◌, ℕ, zero, suc, ◌+◌, ◌-◌, ◌≤◌, List, [], ◌∷◌, length, map}
use Rattle.std.proofs.Common.{refl, sym, ap, true, false, Bool, cond, not, Option, Some, None}
use Rattle.std.proofs.Common.{arith, is_some, if◌then◌else◌, nat_le, slice_get}
use Rattle.std.specs.FinMap.{find, get, get-from_entries, same_map}
use Rattle.std.specs.Option.{option_map_or}
use Rattle.std.proofs.lemmas.Bool.{false_from_ne_true, leb-false, leb-true}
use Rattle.std.proofs.lemmas.Cmp.{nat_list_cmp_total}
use Rattle.std.proofs.lemmas.List.{length-append}
use Rattle.std.proofs.lemmas.Map.Lookups.{exact_bytes}
use Rattle.std.proofs.lemmas.Map.Views.{tells_apart}
use Rattle.std.proofs.lemmas.Option.{none-some, slice_get_within}
use Rattle.book_model.specs.Words.{AreAmong, AreDatedThrough, AreHeld, Book, Naming, Period}
use Rattle.book_model.specs.Words.{Records, all_periods, by_bytes, charged_of, has, members}
use Rattle.book_model.specs.Words.{name_of, open_period, period_by}
use Rattle.book_model.proofs.FilterMapLemmas.{find-none}
use Rattle.book_model.proofs.MapLemmas.{else_find, find-both}
use Rattle.book_model.proofs.RecordSets.{is}
use Rattle.table_model.specs.BookIn.{book_in, close_after, row_record}
use Rattle.table_model.specs.PeriodRows.{numbered}
use Rattle.table_model.specs.Readable.{IsReadable}
use Rattle.table_model.specs.Tables.{RecordRow, Tables}
use Rattle.table_model.specs.TablesOf.{line_entries, signed_names, tables_of}
use Rattle.table_model.proofs.CountedReading.{find_line, its_period, sets}
use Rattle.table_model.proofs.Finding.{get_numbered}
use Rattle.table_model.proofs.HeldPeriods.{all_held, one_of}
use Rattle.table_model.proofs.LineChanges.{given}
use Rattle.table_model.proofs.PeriodPlaces.{slice_get-map}
use Rattle.table_model.proofs.PeriodReading.{find-at}
use Rattle.consistent_tables.specs.Consistent.{AreConsistent, line_at}
use Rattle.consistent_tables.proofs.ChargedSets.{charged_dated, days, posted_is}
use Rattle.consistent_tables.proofs.DayTable.{nothing}
use Rattle.consistent_tables.proofs.HeldRows.{has_kept, is_held, its_name, lines_exact, lines_total}
use Rattle.consistent_tables.proofs.HeldRows.{row_of}
use Rattle.consistent_tables.proofs.PeriodLinks.{added_is, book_past, ends, its_held, period_after}
use Rattle.consistent_tables.proofs.PeriodLinks.{taken_is}
use Rattle.consistent_tables.proofs.ReadableBook.{consistent_are_readable}
use Rattle.consistent_tables.proofs.RecordTable.{charged_is}
use Rattle.consistent_tables.proofs.SoundTables.{sound}
use Rattle.std.specs.FinMap as fin

-- a line is on one of the sides, or there is none
by_sides : (line : Option Bool)
    → else_find (cond (option_map_or (λ plus. plus) line false) (Some true) None)
    (cond (option_map_or not line false) (Some false) None)
    ≡ line
by_sides None = refl
by_sides (Some true) = refl
by_sides (Some false) = refl

module _ (naming : Naming) (tables : Tables) (whole : AreConsistent naming tables) where
  abbrev book : Book
  book = book_in tables

  abbrev made : Tables
  made = tables_of naming book

  -- ---- the periods of the book

  dated : (k : ℕ) → k ≤ length (days tables)
      → AreDatedThrough (close_after k (days tables)) (ends naming tables whole k)
  dated k within = charged_dated naming tables whole k k (omega arith) within

  -- the closed ones are linked by what was charged at the end of each
  abbrev linked : IsReadable naming book
  linked = record (consistent_are_readable.books naming tables whole) {
    past = record {
      charged = ends naming tables whole;
      past = book_past naming tables whole;
      posted = posted_is naming tables whole;
      dated = dated;
    };
  }

  -- and so are all
  sets_are : (k : ℕ) → k ≤ suc (length (days tables))
      → sets naming book linked k ≡ ends naming tables whole k
  sets_are k within =
      elim (nat_le k (length (days tables))) as (λ b. nat_le k (length (days tables)) ≡ b
      → (if b then ends naming tables whole k else charged_of book)
      ≡ ends naming tables whole k) [
        | true ↦ λ closed. refl
        | false ↦ λ late.
            let past = leb-false k (length (days tables)) late in
            let last : suc (length (days tables)) ≡ k = omega arith in
            charged_is naming tables whole ∙ ap (ends naming tables whole) last
      ] refl

  period_there : (k : ℕ) → k ≤ length (days tables)
      → slice_get (all_periods book) k ≡ Some (period_after naming tables whole k)
  period_there k within =
      its_period naming book linked k within
      ∙ (λ i. Some (period_by (close_after k (days tables)) (sets_are k (omega arith) i)
      (sets_are (suc k) (omega arith) i)))

  -- ---- the line of a record in a period that has begun

  module _ (k : ℕ) (within : k ≤ length (days tables)) (name : List ℕ) (row : RecordRow)
      (there : get tables.records name ≡ Some row) where
    abbrev period : Period
    period = period_after naming tables whole k

    line_adds : has period.added (row_record row)
        ≡ option_map_or (λ plus. plus) (line_at tables name (suc k)) false
    line_adds =
        ap (λ records. has records (row_record row)) (sym (added_is naming tables whole k within))
        ∙ has_kept naming tables whole (λ plus. plus) (suc k) name row there

    line_takes : has period.taken (row_record row)
        ≡ option_map_or not (line_at tables name (suc k)) false
    line_takes =
        ap (λ records. has records (row_record row)) (sym (taken_is naming tables whole k within))
        ∙ has_kept naming tables whole not (suc k) name row there

    line_made : get made.lines (suc k, name) ≡ line_at tables name (suc k)
    line_made =
        let own : Period → List (List ℕ × Bool) = line_entries naming in
        let place : ℕ × List ℕ = (suc k, name_of naming (row_record row)) in
        let next : suc k ≡ 1 + k = omega arith in
        ap (λ name. get made.lines (suc k, name)) (its_name naming tables whole name row there)
        ∙ get-from_entries lines_total (numbered 1 (map own (all_periods book))) place
        ∙ find-at by_bytes place 1 k (map own (all_periods book)) (own period)
        (slice_get-map own (all_periods book) k period (period_there k within)) next
        ∙ find_line naming book (sound naming tables whole) (row_record row)
        (is_held naming tables whole name row there) period (its_held naming tables whole k)
        ∙ (λ i. else_find (cond (line_adds i) (Some true) None)
        (cond (line_takes i) (Some false) None))
        ∙ by_sides (line_at tables name (suc k))

  -- ---- and none elsewhere

  -- no line is in a period that has not begun,
  module _ (number : ℕ) (name : List ℕ)
      (not_begun : (k : ℕ) → number ≡ suc k → k ≤ length (days tables) → ⊥) where
    none_kept : get tables.lines (number, name) ≡ None
    none_kept =
        nothing (get tables.lines (number, name)) (λ plus found.
        let own = whole.lines number name (ap is_some found) in
        let after = own.after in
        let begun = own.begun in
        not_begun (number - 1) (omega arith) (omega arith))

    none_made : get made.lines (number, name) ≡ None
    none_made =
        nothing (get made.lines (number, name)) (λ plus found.
        get_numbered nat_list_cmp_total (line_entries naming) ⊥ (all_periods book) (number, name) plus
        (λ k period there is own.
        let inside = slice_get_within (all_periods book) k period there in
        let long = length-append book.past (open_period book ∷ []) in
        let ended = (sound naming tables whole).closed in
        not_begun k (omega arith) (omega arith)) found)

  -- and none under a name that no row has
  module _ (number : ℕ) (name : List ℕ) (no_row : get tables.records name ≡ None) where
    unkept : get tables.lines (number, name) ≡ None
    unkept =
        nothing (get tables.lines (number, name)) (λ plus found.
        let own = whole.lines number name (ap is_some found) in
        none-some own.row (sym no_row ∙ own.held))

    unnamed : (bytes : List ℕ) → has book.held bytes ≡ true → is name (name_of naming bytes) ≡ false
    unnamed bytes there =
        let its = row_of naming tables whole bytes there in
        false_from_ne_true (is name (name_of naming bytes)) (λ tied.
        none-some its.row (sym no_row
        ∙ ap (get tables.records) (tells_apart exact_bytes name (name_of naming bytes) tied)
        ∙ its.found))

    no_side : (plus : Bool) (some : Records) → AreAmong some book.held
        → find by_bytes name (signed_names naming plus some) ≡ None
    no_side plus some among =
        ap (find by_bytes name) (given naming plus (members some))
        ∙ find-none nat_list_cmp_total exact_bytes (λ bytes. Some (name_of naming bytes, plus))
        nat_list_cmp_total name (members some)
        (λ bytes there. unnamed bytes (among bytes (fin.contains_key-keys some bytes ∙ there)))

    unmade : get made.lines (number, name) ≡ None
    unmade =
        nothing (get made.lines (number, name)) (λ plus found.
        get_numbered nat_list_cmp_total (line_entries naming) ⊥ (all_periods book) (number, name) plus
        (λ k period there is own.
        let held = one_of (AreHeld book.held) (all_periods book) k period
        (all_held naming book (sound naming tables whole)) there in
        none-some plus (sym (find-both by_bytes name (signed_names naming true period.added)
        (signed_names naming false period.taken)
        ∙ (λ i. else_find (no_side true period.added held.added i)
        (no_side false period.taken held.taken i))) ∙ own)) found)

  -- ---- so all lines are the same

  row_line : (number : ℕ) (name : List ℕ) (row : RecordRow) → get tables.records name ≡ Some row
      → get tables.lines (number, name) ≡ get made.lines (number, name)
  row_line zero name row there =
      let early : (k : ℕ) → 0 ≡ suc k → k ≤ length (days tables) → ⊥ =
      λ k is within. omega arith in
      none_kept zero name early ∙ sym (none_made zero name early)
  row_line (suc k) name row there =
      elim (nat_le k (length (days tables))) as (λ b. nat_le k (length (days tables)) ≡ b
      → get tables.lines (suc k, name) ≡ get made.lines (suc k, name)) [
        | true ↦ λ begun. sym (line_made k (leb-true k (length (days tables)) begun) name row there)
        | false ↦ λ late.
            let past = leb-false k (length (days tables)) late in
            let after : (j : ℕ) → suc k ≡ suc j → j ≤ length (days tables) → ⊥ =
            λ j is within. omega arith in
            none_kept (suc k) name after ∙ sym (none_made (suc k) name after)
      ] refl

  one_line : (number : ℕ) (name : List ℕ)
      → get tables.lines (number, name) ≡ get made.lines (number, name)
  one_line number name =
      elim (get tables.records name) as (λ found. get tables.records name ≡ found
      → get tables.lines (number, name) ≡ get made.lines (number, name)) [
        | None ↦ λ no_row. unkept number name no_row ∙ sym (unmade number name no_row)
        | Some row ↦ λ there. row_line number name row there
      ] refl

  pub lines_are : tables.lines ≡ made.lines
  lines_are =
      same_map lines_total lines_exact tables.lines made.lines (λ place. one_line place.0 place.1)
