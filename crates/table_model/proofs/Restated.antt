-- Where one record that is held goes from one status to another, the tables change by its row, its
-- charge row and its line, and by whether its name is counted.
use Rattle.std.proofs.Common.{◌≡◌, ℕ, List, [], ◌∷◌, ◌++◌, map, refl, sym, ap, ◌∙◌, true, false}
use Rattle.std.proofs.Common.{true≢false, Bool, cond, not, ◌&&◌, Option, Some, None, get_or, ℤ}
use Rattle.std.proofs.Common.{IsSome, option_map}
use Rattle.std.specs.FinMap.{find}
use Rattle.book_model.proofs.Std.{get, insert, from_entries, false_from_ne_true, nat_list_cmp_total}
use Rattle.book_model.proofs.Std.{exact_bytes, tells_apart}
use Rattle.book_model.specs.declared.row.ChargeRow.{ChargeRow}
use Rattle.book_model.specs.declared.row.RowKey.{RowKey}
use Rattle.book_model.specs.Words.{day_of, data_of, Book, open_number, is_dated_after, Records}
use Rattle.book_model.specs.Words.{Naming, name_of, by_bytes, last_close, has, those, IsSound}
use Rattle.book_model.specs.Words.{AreAmong, Priced, is_after}
use Rattle.book_model.proofs.Lemmas.{map-agree, else_find, find-both, insert-insert, get-inserted}
use Rattle.book_model.proofs.Lemmas.{is, is_itself, same_records, has_those, in_those, pick-agree}
use Rattle.book_model.proofs.Lemmas.{except, with-except}
use Rattle.book_model.proofs.SetChanges.{not_new, has-except}
use Rattle.table_model.specs.Words.{numbered, LineTable, RecordRow, RecordTable, RecordStatus}
use Rattle.table_model.specs.Words.{tables_at, row_by, entry_by, entries_by, counted_by, days_by}
use Rattle.table_model.specs.Words.{line_entries, periods_by, signed_names}
use Rattle.table_model.proofs.RestatedRows.{line_by, line_in, is_counted, part_row, join_row}
use Rattle.table_model.proofs.RestatedRows.{set_counted, set_line, restate}
use Rattle.table_model.proofs.CountedNames.{names, names_restated}
use Rattle.table_model.proofs.DayChanges.{days_at}
use Rattle.table_model.proofs.HeldNames.{alone, except-alike, twice_found, value-with}
use Rattle.table_model.proofs.LineChanges.{added, taken, has_added}
use Rattle.table_model.proofs.NumberedLemmas.{get-open}
use Rattle.table_model.proofs.OpenChanges.{open_days, days_is, lines_is, days-join, days-part}
use Rattle.table_model.proofs.OpenChanges.{lines-set, number_is}
use Rattle.table_model.proofs.OpenNames.{added_before, taken_posted}
use Rattle.table_model.proofs.RecordChanges.{record_table, records-with}

-- what is said of one record
pub record StatusAt : Type 0 where
  pub price : Option Priced
  pub identity : List ℕ
  pub charged : Bool

abbrev pub status_at : RecordStatus → List ℕ → StatusAt
status_at standing q = record {
  price = standing.price q;
  identity = standing.identity q;
  charged = has standing.charged q;
}

-- its row in a book, at a price
abbrev pub row_for : Book → List ℕ → StatusAt → Priced → RecordRow
row_for book one its cost = record {
  identity = its.identity;
  data_bytes = data_of one;
  priced = cost;
  charged = its.charged;
  posted = has book.posted one;
}

-- A status of the records of a book: only what is held is charged, each record that is held has a
-- price, and a price has the record's day.
pub record IsStatus (book : Book) (standing : RecordStatus) : Type 0 where
  pub charged : AreAmong standing.charged book.held
  pub priced : (q : List ℕ) → has book.held q ≡ true → IsSome (standing.price q)
  pub dated : (q : List ℕ) (cost : Priced) → standing.price q ≡ Some cost → cost.day ≡ day_of q

-- what is not in a set is not in one that it contains
pub not_among : (some all : Records) → AreAmong some all → (q : List ℕ) → has all q ≡ false
    → has some q ≡ false
not_among some all within q out =
    false_from_ne_true (has some q) (λ e. true≢false (sym (within q e) ∙ out))

-- so two such sets agree on a record if they do where it is in the third
held_alike : (a b all : Records) → AreAmong a all → AreAmong b all → (q : List ℕ)
    → (has all q ≡ true → has a q ≡ has b q) → has a q ≡ has b q
held_alike a b all of_a of_b q agree =
    elim (has all q) as (λ h. has all q ≡ h → has a q ≡ has b q) [
      | true ↦ agree
      | false ↦ λ out. not_among a all of_a q out ∙ sym (not_among b all of_b q out)
    ] refl

-- a line is found by three tests: the record is posted, dated after the last close, charged
by_tests : (p a c : Bool)
    → else_find (cond (not a && (not p && c)) (Some true) None) (cond (not c && p) (Some false) None)
    ≡ line_by p a c
by_tests true true true = refl
by_tests true true false = refl
by_tests true false true = refl
by_tests true false false = refl
by_tests false true true = refl
by_tests false true false = refl
by_tests false false true = refl
by_tests false false false = refl

both_found : (t : Bool) (a b c d : Option Bool)
    → else_find (cond t a c) (cond t b d) ≡ cond t (else_find a b) (else_find c d)
both_found true a b c d = refl
both_found false a b c d = refl

module _ (naming : Naming) (book : Book) (sound : IsSound naming book) where
  -- the last close's day, and whether a record is dated after it
  abbrev last : Option ℤ
  last = last_close book.rulings

  abbrev current : List ℕ → Bool
  current = is_dated_after last

  -- the number of the open period
  abbrev period : ℕ
  period = open_number book

  -- records that have one status in both have the same rows,
  records-alike : (from to : RecordStatus) (records : Records)
      → ((q : List ℕ) → has records q ≡ true → status_at from q ≡ status_at to q)
      → ◌≡◌ {A = RecordTable} (from_entries (entries_by naming from records book.posted))
      (from_entries (entries_by naming to records book.posted))
  records-alike from to records same =
      ap from_entries (pick-agree (entry_by naming from book.posted) (entry_by naming to book.posted)
      records (λ q in_it. ap (λ its. option_map {T = Priced} {U = List ℕ × RecordRow}
      (λ cost. (name_of naming q, row_for book q its cost)) its.price) (same q in_it)))

  -- and the same charge rows, where what closed periods count costs the same
  days-alike : (one other : List ℕ → Option Priced) (counted : Records)
      → ((q : List ℕ) → has counted q ≡ true → one q ≡ other q)
      → ((q : List ℕ) → has book.held q ≡ true → current q ≡ false → one q ≡ other q)
      → open_days book one counted ≡ open_days book other counted
  days-alike one other counted now past =
      let rows : List Priced → List (RowKey × ChargeRow) = days_at in
      let closed = map-agree (days_by one) (days_by other) book.past (λ k ended within.
      ap rows (pick-agree one other (get_or book.past k ended).counted (λ q in_it.
      past q ((sound.past k ended within).counted q in_it)
      ((sound.settled k ended within).counted q in_it)))) in
      let latest = ap rows (pick-agree one other counted now) in
      λ i. from_entries (numbered 1 (closed i ++ latest i ∷ []))

  -- statuses that are the same for what is held have the same tables
  pub tables-alike : (one other : RecordStatus) → AreAmong one.charged book.held
      → AreAmong other.charged book.held
      → ((q : List ℕ) → has book.held q ≡ true → status_at one q ≡ status_at other q)
      → tables_at naming book one ≡ tables_at naming book other
  tables-alike one other of_one of_other same =
      let charged : one.charged ≡ other.charged = same_records one.charged other.charged (λ q.
      held_alike one.charged other.charged book.held of_one of_other q (λ held.
      ap (λ its. its.charged) (same q held))) in
      let price = λ (q : List ℕ) (held : has book.held q ≡ true). ap (λ its. its.price) (same q held) in
      let rows = records-alike one other book.held same in
      let days = days_is book one.price one.charged
      ∙ ap (λ charged. open_days book one.price (those current charged)) charged
      ∙ days-alike one.price other.price (those current other.charged)
      (λ q in_it. price q (of_other q (in_those current other.charged q in_it)))
      (λ q held late. price q held)
      ∙ sym (days_is book other.price other.charged) in
      λ i. record (tables_at naming book one) {
        records = rows i;
        days = days i;
        lines = from_entries (numbered 1 (map (line_entries naming) (periods_by book (charged i))));
        counted = names naming (counted_by book (charged i));
      }

  module _ (one : List ℕ) (there : has book.held one ≡ true) where
    -- its name
    abbrev own_name : List ℕ
    own_name = name_of naming one

    -- its row joins those of the others
    rows-with : (standing : RecordStatus) (cost : Priced) → standing.price one ≡ Some cost
        → (tables_at naming book standing).records
        ≡ insert (from_entries (entries_by naming standing (except one book.held) book.posted)) own_name
        (row_for book one (status_at standing one) cost)
    rows-with standing cost costs =
        ap (λ held. from_entries (entries_by naming standing held book.posted))
        (sym (with-except book.held one there))
        ∙ records-with naming standing.price standing.identity book.posted
        (except one book.held) standing.charged one cost
        (alone naming book sound one there book.held (λ q held. held)) costs

    -- by one status
    module _ (standing : RecordStatus) (status : IsStatus book standing) (cost : Priced)
        (costs : standing.price one ≡ Some cost) where
      -- what lines add and reverse
      abbrev plus : Records
      plus = added last book.posted standing.charged

      abbrev minus : Records
      minus = taken book.posted standing.charged

      -- its row
      abbrev own : RecordRow
      own = row_for book one (status_at standing one) cost

      -- it is after the last close by its price if it is by its header
      after : current one ≡ is_after last cost.day
      after = ap (is_after last) (sym (status.dated one cost costs))

      -- so its charge row counts it
      counts : has (those current standing.charged) one ≡ is_counted last own
      counts =
          let c : Bool = has standing.charged one in
          has_those current standing.charged one ∙ ap (λ a. a && c) after
          ∙ elim (has book.posted one) as (λ p. has book.posted one ≡ p
          → (is_after last cost.day && c) ≡ (not p && (is_after last cost.day && c))) [
            | true ↦ λ on. ap (λ a. a && c) (sym after ∙ sound.dated one on)
            | false ↦ λ out. refl
          ] refl

      -- the lines of the open period, and those of the other records
      abbrev lines : List (List ℕ × Bool)
      lines = signed_names naming true plus ++ signed_names naming false minus

      abbrev rest : List (List ℕ × Bool)
      rest = signed_names naming true (except one plus) ++ signed_names naming false (except one minus)

      -- its line joins those of the others
      lines-found : (q : List ℕ) → find by_bytes q lines
          ≡ cond (is q own_name) (line_in last own) (find by_bytes q rest)
      lines-found q =
          let p : Bool = has book.posted one in
          let a : Bool = is_after last cost.day in
          let c : Bool = has standing.charged one in
          let others : Bool → Records → Option Bool =
          λ sign records. find by_bytes q (signed_names naming sign (except one records)) in
          find-both by_bytes q (signed_names naming true plus) (signed_names naming false minus)
          ∙ (λ i. else_find
          (value-with naming book sound one there true plus (λ q on. status.charged q
          (added_before naming book sound standing.charged q on)) q (not a && (not p && c))
          (has_added last book.posted standing.charged one ∙ ap (λ a. not a && (not p && c)) after) i)
          (value-with naming book sound one there false minus (λ q on. sound.posted q
          (taken_posted naming book sound standing.charged q on)) q (not c && p)
          (has_those (λ b. not (has standing.charged b)) book.posted one) i))
          ∙ both_found (is q own_name) (cond (not a && (not p && c)) (Some true) None)
          (cond (not c && p) (Some false) None) (others true plus) (others false minus)
          ∙ (λ i. cond (is q own_name) (by_tests p a c i)
          (sym (find-both by_bytes q (signed_names naming true (except one plus))
          (signed_names naming false (except one minus))) i))

      -- so the open period has this line of it
      pub line-found : get (tables_at naming book standing).lines (period, own_name) ≡ line_in last own
      line-found =
          ap (λ (all : LineTable). get all (period, own_name)) (lines_is naming book standing.charged)
          ∙ get-open by_bytes nat_list_cmp_total exact_bytes 1 period
          (map (line_entries naming) book.past)
          (number_is book sound.closed (line_entries naming)) lines own_name
          ∙ lines-found own_name
          ∙ ap (λ t. cond t (line_in last own) (find by_bytes own_name rest)) (is_itself own_name)

  -- so its row is stored under its name
  pub row-found : (price : List ℕ → Option Priced) (identity : List ℕ → List ℕ) (charged : Records)
      (one : List ℕ) → has book.held one ≡ true → (cost : Priced) → price one ≡ Some cost
      → get (record_table naming price identity book.posted book.held charged) (name_of naming one)
      ≡ Some (row_by identity charged book.posted one cost)
  row-found price identity charged one there cost costs =
      ap (λ rows. get rows (name_of naming one))
      (rows-with one there (record { price = price; identity = identity; charged = charged }) cost
      costs)
      ∙ get-inserted nat_list_cmp_total exact_bytes
      (record_table naming price identity book.posted (except one book.held) charged)
      (name_of naming one) (row_by identity charged book.posted one cost)

  -- one record goes from one status to another
  module _ (from to : RecordStatus) (was : IsStatus book from) (becomes : IsStatus book to)
      (one : List ℕ) (there : has book.held one ≡ true)
      (others : (q : List ℕ) → has book.held q ≡ true → is q one ≡ false
      → status_at from q ≡ status_at to q)
      (settled : current one ≡ false → from.price one ≡ to.price one)
      (cost costs : Priced) (its : from.price one ≡ Some cost) (its_now : to.price one ≡ Some costs)
    where
      abbrev name : List ℕ
      name = name_of naming one

      -- its rows
      abbrev old : RecordRow
      old = row_for book one (status_at from one) cost

      abbrev new : RecordRow
      new = row_for book one (status_at to one) costs

      -- the others of a set are others
      apart : (records : Records) → AreAmong records book.held → (q : List ℕ)
          → has (except one records) q ≡ true → status_at from q ≡ status_at to q
      apart records within q in_it =
          others q (within q (in_those (λ b. not (is b one)) records q in_it))
          (not_new (except one records) q one in_it (has-except records one))

      charged_too : (q : List ℕ) → is q one ≡ false → has from.charged q ≡ has to.charged q
      charged_too q differs =
          held_alike from.charged to.charged book.held was.charged becomes.charged q
          (λ held. ap (λ its. its.charged) (others q held differs))

      -- so what is counted, added and reversed differs at the one alone
      counted_too : except one (those current from.charged) ≡ except one (those current to.charged)
      counted_too = except-alike one (those current from.charged) (those current to.charged)
          (λ q differs. has_those current from.charged q
          ∙ ap (λ c. current q && c) (charged_too q differs)
          ∙ sym (has_those current to.charged q))

      plus_too : except one (added last book.posted from.charged)
          ≡ except one (added last book.posted to.charged)
      plus_too = except-alike one (added last book.posted from.charged)
          (added last book.posted to.charged) (λ q differs.
          has_added last book.posted from.charged q
          ∙ ap (λ c. not (current q) && (not (has book.posted q) && c)) (charged_too q differs)
          ∙ sym (has_added last book.posted to.charged q))

      minus_too : except one (taken book.posted from.charged)
          ≡ except one (taken book.posted to.charged)
      minus_too = except-alike one (taken book.posted from.charged) (taken book.posted to.charged)
          (λ q differs. has_those (λ b. not (has from.charged b)) book.posted q
          ∙ ap (λ c. not c && has book.posted q) (charged_too q differs)
          ∙ sym (has_those (λ b. not (has to.charged b)) book.posted q))

      -- the rows of the records
      rows_restated : (tables_at naming book to).records
          ≡ insert (tables_at naming book from).records name new
      rows_restated =
          rows-with one there to costs its_now
          ∙ ap (λ rows. insert rows name new) (sym (records-alike from to (except one book.held)
          (apart book.held (λ q held. held))))
          ∙ sym (insert-insert nat_list_cmp_total exact_bytes
          (from_entries (entries_by naming from (except one book.held) book.posted)) name old new)
          ∙ ap (λ rows. insert rows name new) (sym (rows-with one there from cost its))

      -- the charge rows
      days_restated : (tables_at naming book to).days
          ≡ join_row period last new (part_row period last old (tables_at naming book from).days)
      days_restated =
          let counted : Records = those current from.charged in
          let held = λ (q : List ℕ) (in_it : has counted q ≡ true).
          was.charged q (in_those current from.charged q in_it) in
          days_is book to.price to.charged
          ∙ days-join naming book sound.closed to.price (those current to.charged) one costs its_now
          (is_counted last new) (counts one there to becomes costs its_now)
          ∙ ap (join_row period last new)
          (ap (open_days book to.price) (sym counted_too)
          ∙ sym (days-alike from.price to.price (except one counted)
          (λ q in_it. ap (λ its. its.price) (apart counted held q in_it)) price_too)
          ∙ days-part naming book sound.closed from.price counted one cost its
          (is_counted last old) (counts one there from was cost its)
          ∙ ap (part_row period last old) (sym (days_is book from.price from.charged)))
        where
          price_too : (q : List ℕ) → has book.held q ≡ true → current q ≡ false
              → from.price q ≡ to.price q
          price_too q held late =
              elim (is q one) as (λ t. is q one ≡ t → from.price q ≡ to.price q) [
                | true ↦ λ same. let it = tells_apart exact_bytes q one same in
                    ap from.price it ∙ settled (sym (ap current it) ∙ late) ∙ ap to.price (sym it)
                | false ↦ λ differs. ap (λ its. its.price) (others q held differs)
              ] refl

      -- the lines
      lines_restated : (tables_at naming book to).lines
          ≡ set_line (period, name) (line_in last new) (line_in last old)
          (tables_at naming book from).lines
      lines_restated =
          let before : List (List ℕ × Bool) = lines one there from was cost its in
          lines_is naming book to.charged
          ∙ lines-set naming book sound.closed before (lines one there to becomes costs its_now) name
          (line_in last new) (line_in last old)
          (λ q. lines-found one there to becomes costs its_now q
          ∙ (λ i. cond (is q name) (line_in last new)
          (find by_bytes q (signed_names naming true (sym plus_too i)
          ++ signed_names naming false (sym minus_too i))))
          ∙ twice_found (is q name) (line_in last new) (line_in last old)
          (find by_bytes q (rest one there from was cost its))
          ∙ ap (cond (is q name) (line_in last new)) (sym (lines-found one there from was cost its q)))
          (lines-found one there from was cost its name
          ∙ ap (λ t. cond t (line_in last old) (find by_bytes name (rest one there from was cost its)))
          (is_itself name))
          ∙ ap (set_line (period, name) (line_in last new) (line_in last old))
          (sym (lines_is naming book from.charged))

      -- the names that are counted
      counted_restated : (tables_at naming book to).counted
          ≡ set_counted name (is_counted last new) (is_counted last old)
          (tables_at naming book from).counted
      counted_restated =
          names_restated naming book sound one there from.charged to.charged was.charged
          becomes.charged charged_too
          ∙ (λ i. set_counted name
          ((sym (has_those current to.charged one) ∙ counts one there to becomes costs its_now) i)
          ((sym (has_those current from.charged one) ∙ counts one there from was cost its) i)
          (tables_at naming book from).counted)

      -- the tables
      pub restated : tables_at naming book to
          ≡ restate period last name old new (tables_at naming book from)
      restated = λ i. record (tables_at naming book from) {
        records = rows_restated i;
        days = days_restated i;
        lines = lines_restated i;
        counted = counted_restated i;
      }
