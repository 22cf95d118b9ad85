-- The rows and lines of a book that can be read back are right by its rulings.
use Rattle.std.proofs.Common.{◌≡◌, ◌∙◌, ℕ, suc, ◌<◌, ◌≤◌, List, [], ◌∷◌, ◌||◌, length, refl, sym}
use Rattle.std.proofs.Common.{ap, subst, true, false, true≢false, Bool, not, ◌&&◌, Some, IsSome}
use Rattle.std.proofs.Common.{arith, map, if◌then◌else◌, nat_lt}
use Rattle.std.specs.FinMap.{find, get}
use Rattle.std.specs.List.{AllByRecursion, list_any}
use Rattle.std.proofs.Math.Bool.{and-true, or-true}
use Rattle.std.proofs.lemmas.Bool.{false_from_ne_true, lt-ltb, ltb-false, ltb-true}
use Rattle.std.proofs.lemmas.Cmp.{nat_list_cmp_total}
use Rattle.std.proofs.lemmas.List.{length-append}
use Rattle.std.proofs.lemmas.Map.Lookups.{exact_bytes}
use Rattle.std.proofs.lemmas.Option.{slice_get_within}
use Rattle.tariff_rules.specs.declared.priced.Priced.{Priced}
use Rattle.book_model.specs.Words.{Book, IsUsageRecord, Naming, Period, all_periods, by_bytes}
use Rattle.book_model.specs.Words.{charged_of, has, identity_by, is_dated_after, is_undisputed}
use Rattle.book_model.specs.Words.{members, name_of, open_by, open_period, price_in, without}
use Rattle.book_model.proofs.RecordSets.{has_those, in_those, is, is_first, not_true, passes_those}
use Rattle.table_model.specs.BookIn.{close_after, row_record}
use Rattle.table_model.specs.Readable.{IsReadable}
use Rattle.table_model.specs.Tables.{RecordRow, Tables}
use Rattle.table_model.specs.TablesOf.{line_entries, record_row, signed_names, tables_of}
use Rattle.table_model.specs.Views.{is_due_in}
use Rattle.table_model.proofs.CostLemmas.{day-price}
use Rattle.table_model.proofs.CountedReading.{its_held, its_period, period_after, sets, sets_past}
use Rattle.table_model.proofs.DueLemmas.{due-follows}
use Rattle.table_model.proofs.Finding.{find_one, get_numbered}
use Rattle.table_model.proofs.LineReading.{held_row}
use Rattle.table_model.proofs.ListOrder.{all_joined}
use Rattle.table_model.proofs.RecordReading.{every_row}
use Rattle.table_model.proofs.TableParts.{what_is}
use Rattle.consistent_tables.specs.Consistent.{AreInTurn, IsOwnLine, IsOwnRow, charged_back, ruled}
use Rattle.consistent_tables.specs.DueRows.{period_from}
use Rattle.consistent_tables.proofs.ClosePeriods.{after_close}
use Rattle.consistent_tables.proofs.ChainTold.{all_later, in_turn, later_are, later_periods, own}
use Rattle.consistent_tables.proofs.ChainTold.{ruled_back, told}
use Rattle.std.specs.FinMap as fin

module _ (naming : Naming) (book : Book) (whole : IsReadable naming book) where
  abbrev tables : Tables
  tables = tables_of naming book

  -- ---- a record's row

  module _ (bytes : List ℕ) (priced : Priced) (there : has book.held bytes ≡ true)
      (price : price_in book.rulings bytes ≡ Some priced) where
    abbrev name : List ℕ
    name = name_of naming bytes

    abbrev row : RecordRow
    row = record_row book.rulings (charged_of book) book.posted bytes priced

    -- how many periods come after that of its day
    abbrev later : ℕ
    later = later_periods naming book whole bytes there

    -- it is charged where it is due
    is_due : row.charged ≡ is_due_in tables name
    is_due =
        has_those (is_undisputed book.rulings book.held) book.held bytes
        ∙ ap (λ held. is_undisputed book.rulings book.held bytes && held) there
        ∙ and-true (is_undisputed book.rulings book.held bytes)
        ∙ sym (due-follows naming book whole.sound (charged_of book) bytes there)

    -- by the periods after that of its day: it is posted if it was charged before the open one
    abbrev IsPosted : ℕ → Type 0
    IsPosted later =
        row.posted ≡ (if nat_lt 0 later then charged_back tables name 1 row.charged else false)

    posted_before : IsPosted later
    posted_before =
        let closed : ℕ = length book.rulings.closes in
        elim (nat_lt 0 later) as (λ b. nat_lt 0 later ≡ b
        → row.posted ≡ (if b then charged_back tables name 1 row.charged else false)) [
          | true ↦ λ some.
              let more = ltb-true 0 later some in
              sym (told naming book whole bytes there 1 closed (omega arith) (omega (arith, more))
              ∙ ap (λ records. has records bytes)
              (sets_past naming book whole closed (omega arith) ∙ sym whole.past.posted))
          | false ↦ λ none.
              let no_more = ltb-false 0 later none in
              let last : closed < own naming book whole bytes there = omega (arith, no_more) in
              false_from_ne_true row.posted (λ on.
              true≢false (sym (after_close bytes book.rulings.closes closed whole.in_order
              (omega arith) ∙ lt-ltb closed (own naming book whole bytes there) last)
              ∙ whole.past.dated closed (omega arith) bytes
              (ap (λ records. has records bytes) (sym whole.past.posted) ∙ on)))
        ] refl

    -- so all of it is its own
    own_row : IsOwnRow naming tables name row
    own_row =
        let same = ruled_back naming book whole in
        let its : bytes ≡ row_record row = (whole.lines.framed bytes there).is in
        let after = sym (later_are naming book whole bytes there priced price) in
        record {
          named = ap (name_of naming) its;
          usage = subst IsUsageRecord its (whole.usage bytes there);
          identity = λ i. identity_by (sym same i) (its i);
          price = (λ i. price_in (same i) (sym its i)) ∙ price;
          priced = whole.priced bytes priced there price;
          charged = is_due;
          turns = subst (λ k. AreInTurn tables name k row.charged) after
              (in_turn naming book whole bytes there later
              (own naming book whole bytes there) (all_later naming book whole bytes there)
              (omega arith));
          posted = subst IsPosted after posted_before;
        }

  -- each row is
  pub own_rows : (name : List ℕ) (row : RecordRow) → get tables.records name ≡ Some row
      → IsOwnRow naming tables name row
  own_rows =
      every_row naming book whole.sound (λ entry. IsOwnRow naming tables entry.0 entry.1) own_row

  -- ---- a line

  -- a record that is dated no later than the close before a period has its own lines there
  own_line : (k : ℕ) (bytes : List ℕ) → k ≤ length book.rulings.closes
      → has book.held bytes ≡ true
      → is_dated_after (close_after k book.rulings.closes) bytes ≡ false
      → IsOwnLine tables (suc k) (name_of naming bytes)
  own_line k bytes within there early =
      let same = ruled_back naming book whole in
      let row = held_row naming book whole.sound bytes there in
      let of_day : period_from 1 (ruled tables).closes row.0.day
      ≡ own naming book whole bytes there =
      (λ i. period_from 1 (same i).closes (day-price book.rulings bytes row.0 row.1 i)) in
      let not_after = ltb-false k (own naming book whole bytes there)
      (sym (after_close bytes book.rulings.closes k whole.in_order within) ∙ early) in
      let last : open_by (ruled tables) ≡ open_by book.rulings = ap open_by same in
      record {
        row = record_row book.rulings (charged_of book) book.posted bytes row.0;
        held = row.2;
        after = subst (λ number. number < suc k) (sym of_day) (omega (arith, not_after));
        begun = subst (λ number. suc k ≤ number) (sym last) (omega (arith, within));
      }

  module _ (k : ℕ) (within : k ≤ length book.rulings.closes) where
    -- the records that a period adds, and those that it reverses, are such records
    abbrev period : Period
    period = period_after naming book whole k

    abbrev IsItsLine : List ℕ × Bool → Type 0
    IsItsLine line = IsOwnLine tables (suc k) line.0

    added_own : (bytes : List ℕ) → has period.added bytes ≡ true
        → IsOwnLine tables (suc k) (name_of naming bytes)
    added_own bytes on =
        let last = close_after k book.rulings.closes in
        own_line k bytes within ((its_held naming book whole k within).added bytes on)
        (not_true (is_dated_after last bytes)
        (passes_those (λ bytes. not (is_dated_after last bytes))
        (without (sets naming book whole (suc k)) (sets naming book whole k)) bytes on))

    taken_own : (bytes : List ℕ) → has period.taken bytes ≡ true
        → IsOwnLine tables (suc k) (name_of naming bytes)
    taken_own bytes on =
        own_line k bytes within ((its_held naming book whole k within).taken bytes on)
        (whole.past.dated k within bytes
        (ap (λ records. has records bytes) (sym (sets_past naming book whole k within))
        ∙ in_those (λ bytes. not (has (sets naming book whole (suc k)) bytes))
        (sets naming book whole k) bytes on))

    -- so are the lines of one sign,
    each_side : (plus : Bool) (ks : List (List ℕ))
        → ((bytes : List ℕ) → list_any (is bytes) ks ≡ true
        → IsOwnLine tables (suc k) (name_of naming bytes))
        → AllByRecursion IsItsLine
        (map {B = List ℕ × Bool} (λ bytes. (name_of naming bytes, plus)) ks)
    each_side plus [] each = tt
    each_side plus (one ∷ ks) each = (
      each one (is_first one ks),
      each_side plus ks
          (λ other among. each other (ap (λ b. is other one || b) among ∙ or-true (is other one))),
    )

    -- and all its lines
    its_lines : AllByRecursion IsItsLine (line_entries naming period)
    its_lines =
        all_joined IsItsLine (signed_names naming true period.added)
        (signed_names naming false period.taken)
        (each_side true (members period.added)
        (λ bytes among. added_own bytes (fin.contains_key-keys period.added bytes ∙ among)))
        (each_side false (members period.taken)
        (λ bytes among. taken_own bytes (fin.contains_key-keys period.taken bytes ∙ among)))

  -- each line is its record's own
  pub own_lines : (number : ℕ) (name : List ℕ) → IsSome (get tables.lines (number, name))
      → IsOwnLine tables number name
  own_lines number name some =
      let line = what_is (get tables.lines (number, name)) some in
      get_numbered nat_list_cmp_total (line_entries naming) (IsOwnLine tables number name)
      (all_periods book) (number, name) line.0
      (λ k one at numbered found.
      let inside = slice_get_within (all_periods book) k one at in
      let long = length-append book.past (open_period book ∷ []) in
      let count = whole.sound.closed in
      let within : k ≤ length book.rulings.closes = omega (arith, inside, long, count) in
      let both : Some (period_after naming book whole k) ≡ Some one =
      sym (its_period naming book whole k within) ∙ at in
      let same : one ≡ period_after naming book whole k = cc in
      let place : suc k ≡ number = omega (arith, numbered) in
      subst (λ number. IsOwnLine tables number name) place
      (find_one by_bytes exact_bytes (λ name plus. IsOwnLine tables (suc k) name) name line.0
      (line_entries naming (period_after naming book whole k)) (its_lines k within)
      (ap (λ one. find by_bytes name (line_entries naming one)) (sym same) ∙ found)))
      line.1
