-- A record with the entry by which it came, by its name: what is found is what the book has.
use Rattle.std.proofs.Common.{◌≡◌, ◌∙◌, ◌+◌, ◌||◌, ℕ, Bool, List, [], ◌∷◌, None, Option, Some, ap}
use Rattle.std.proofs.Common.{cond, false, find, is_some, length, map, not, option_map, refl, sym, true}
use Rattle.std.proofs.Common.{subst, true≢false, unwrap_or}
use Rattle.std.proofs.Math.Bool.{or-true}
use Rattle.std.specs.List.{AllByRecursion}
use Rattle.std.specs.Ordering.{is_lt}
use Rattle.std.specs.declared.cmp.Ordering.TheVariants.{Less}
use Rattle.book_model.proofs.Std.{IsStrictlySortedBy, exact_bytes, get, get-from_entries, list_any}
use Rattle.book_model.proofs.Std.{nat_list_cmp_total, option_map_or, sorted_head, sorted_tail}
use Rattle.book_model.proofs.Std.{tells_apart}
use Rattle.book_model.specs.declared.entry.Arrival.{Arrival}
use Rattle.book_model.specs.Words.{Book, Entry, Naming, Records, arrival_at, arrival_from, arrivals}
use Rattle.book_model.specs.Words.{by_bytes, came_by, has, is_from, kept_by, members, name_of}
use Rattle.book_model.specs.Words.{names_of, record_named, set_of}
use Rattle.book_model.proofs.FromLemmas.{find-map}
use Rattle.book_model.proofs.Lemmas.{any_tied-members, find-both, is, is_itself, members_rise}
use Rattle.book_model.proofs.Lemmas.{named_held}
use Rattle.book_model.proofs.MapLemmas.{else_find}
use Rattle.book_core.proofs.ArrivalLemmas.{all_swapped}
use Rattle.book_core.proofs.NamedLemmas.{is_some-named, its_name}
use Rattle.table_model.specs.JournalRows.{came_entries}
use Rattle.table_model.specs.Journaled.{AreEntries, IsJournaled}
use Rattle.table_model.specs.Tables.{RecordRow}
use Rattle.table_model.specs.UnderNames.{under_names}
use Rattle.table_model.specs.Words.{IsReadable, Tables, row_record, tables_of}
use Rattle.table_model.proofs.HeldNames.{own_value}
use Rattle.table_model.proofs.JournalReading.{first-among, rest-are}
use Rattle.table_model.proofs.TrailLemmas.{records_follow}
use Rattle.tree_tables.specs.Answers.{FindsArrival}
use Rattle.std.specs.FinMap as fin

-- ---- the first of names that rise

-- what is said of all is said of each
of_each : (P : List ℕ → Type 0) (name : List ℕ) (names : List (List ℕ)) → AllByRecursion P names
    → list_any (is name) names ≡ true → P name
of_each P name [] all there = absurd (true≢false (sym there))
of_each P name (first ∷ rest) all there =
    by (is name first) refl there (of_each P name rest all.1)
  where
    by : (same : Bool) → is name first ≡ same → (same || list_any (is name) rest) ≡ true
        → (list_any (is name) rest ≡ true → P name) → P name
    by true same there later = subst P (sym (tells_apart exact_bytes name first same)) all.0
    by false other there later = later there

-- the least of those from some bytes on is found first
least_found : (from name : List ℕ) (names : List (List ℕ)) → IsStrictlySortedBy by_bytes names
    → list_any (is name) names ≡ true → is_from from name ≡ true
    → ((other : List ℕ) → list_any (is other) names ≡ true → is_from from other ≡ true
    → is_from name other ≡ true)
    → find (is_from from) names ≡ Some name
least_found from name [] rise there reached least = absurd (true≢false (sym there))
least_found from name (first ∷ rest) rise there reached least =
    by (is name first) refl (sorted_head by_bytes first rest rise)
    (λ later. least_found from name rest (sorted_tail by_bytes first rest rise) later reached
    (λ other among high.
    least other (ap (λ b. is other first || b) among ∙ or-true (is other first)) high))
    there
  where
    -- it is behind the first, which is not reached: else that were the least
    late : (on : Bool) → is_from from first ≡ on
        → AllByRecursion (λ other. by_bytes first other ≡ Less) rest
        → list_any (is name) rest ≡ true → find (is_from from) rest ≡ Some name
        → cond on (Some first) (find (is_from from) rest) ≡ Some name
    late true on below later found =
        let own = ap (λ b. b || list_any (is first) rest) (is_itself first) in
        let less : by_bytes first name ≡ Less =
        of_each (λ other. by_bytes first other ≡ Less) name rest below later in
        absurd (true≢false (sym (least first own on) ∙ ap (λ order. not (is_lt order)) less))
    late false on below later found = found

    by : (same : Bool) → is name first ≡ same
        → AllByRecursion (λ other. by_bytes first other ≡ Less) rest
        → (list_any (is name) rest ≡ true → find (is_from from) rest ≡ Some name)
        → (same || list_any (is name) rest) ≡ true
        → find (is_from from) (first ∷ rest) ≡ Some name
    by true same below found there =
        let one = tells_apart exact_bytes name first same in
        ap (λ b. cond b (Some first) (find (is_from from) rest))
        (ap (is_from from) (sym one) ∙ reached)
        ∙ ap Some (sym one)
    by false other below found there =
        late (is_from from first) refl below there (found there)

-- where none is from there on, none is found
none_from : (from : List ℕ) (names : List (List ℕ))
    → ((other : List ℕ) → list_any (is other) names ≡ true → is_from from other ≡ false)
    → find (is_from from) names ≡ None
none_from from [] before = refl
none_from from (first ∷ rest) before =
    ap (λ b. cond b (Some first) (find (is_from from) rest))
    (before first (ap (λ b. b || list_any (is first) rest) (is_itself first)))
    ∙ none_from from rest (λ other among.
    before other (ap (λ b. is other first || b) among ∙ or-true (is other first)))

-- ---- the names of a book's records

module _ (naming : Naming) (book : Book) (whole : IsReadable naming book)
    (journaled : IsJournaled book) where
  abbrev kept : Tables
  kept = tables_of naming book

  abbrev names : List (List ℕ)
  names = names_of naming book.held

  -- a name is among them where a row has it
  among_is : (name : List ℕ)
      → list_any (is name) names ≡ is_some (get kept.records name)
  among_is name =
      any_tied-members nat_list_cmp_total (map (name_of naming) (members book.held)) name
      ∙ all_swapped naming name (members book.held)
      ∙ sym (is_some-named naming book.held name)
      ∙ ap is_some (records_follow naming book name whole)
      ∙ as_many (get kept.records name)
    where
      as_many : (found : Option RecordRow) → is_some (option_map row_record found) ≡ is_some found
      as_many None = refl
      as_many (Some row) = refl

  -- and where it is among them there is a row
  row_of : (name : List ℕ) → list_any (is name) names ≡ true
      → (row : RecordRow) × (get kept.records name ≡ Some row)
  row_of name among = by (get kept.records name) refl (sym (among_is name) ∙ among)
    where
      by : (found : Option RecordRow) → get kept.records name ≡ found → is_some found ≡ true
          → (row : RecordRow) × (get kept.records name ≡ Some row)
      by None none some = absurd (true≢false (sym some))
      by (Some row) is some = (row, is)

  -- ---- by which entry they came

  -- the number under the name of a record that is held
  number_is : (bytes : List ℕ) → has book.held bytes ≡ true → (list : List Entry)
      → AreEntries book.held list
      → unwrap_or (fin.find by_bytes (name_of naming bytes) (came_entries naming list)) 0
      ≡ came_by list bytes
  number_is bytes there [] are = refl
  number_is bytes there (entry ∷ older) are =
      let own : Records = kept_by entry.act in
      let number : ℕ = length older + 1 in
      let name : List ℕ = name_of naming bytes in
      let before : Option ℕ = fin.find by_bytes name (came_entries naming older) in
      let among = first-among book.held entry older are in
      let rest = number_is bytes there older (rest-are book.held entry older are) in
      ap (λ found. unwrap_or found 0)
      (find-both by_bytes name (under_names naming number own) (came_entries naming older))
      ∙ ap (λ found. unwrap_or (else_find found before) 0)
      (own_value naming book whole.sound bytes there number own among)
      ∙ elim (has own bytes) as (λ b.
      unwrap_or (else_find (cond b (Some number) None) before) 0
      ≡ cond b number (came_by older bytes)) [
        | true ↦ refl
        | false ↦ rest
      ]

  -- that of a name with a row
  came_is : (name : List ℕ) (row : RecordRow) → get kept.records name ≡ Some row
      → unwrap_or (get kept.came name) 0
      ≡ option_map_or (came_by book.journal) (record_named naming book.held name) 0
  came_is name row is =
      let bytes : List ℕ = row_record row in
      let found : record_named naming book.held name ≡ Some bytes =
      records_follow naming book name whole ∙ ap (option_map row_record) is in
      let there = named_held naming book.held name bytes found in
      ap (λ own. unwrap_or own 0)
      (get-from_entries nat_list_cmp_total (came_entries naming book.journal) name)
      ∙ ap (λ own. unwrap_or (fin.find by_bytes own (came_entries naming book.journal)) 0)
      (sym (its_name naming book.held name bytes found))
      ∙ number_is bytes there book.journal journaled
      ∙ ap (λ held. option_map_or (came_by book.journal) held 0) (sym found)

  -- ---- the record that is found

  -- the list by its names
  by_names : (from : List ℕ) → arrival_from from (arrivals naming book)
      ≡ option_map (arrival_at naming book) (find (is_from from) names)
  by_names from =
      find-map (arrival_at naming book) (λ (arrival : Arrival). is_from from arrival.name) names

  pub arrival_found : (from : List ℕ) (found : Option Arrival) → FindsArrival from kept found
      → arrival_from from (arrivals naming book) ≡ found
  arrival_found from None finds =
      by_names from
      ∙ ap (option_map (arrival_at naming book))
      (none_from from names (λ other among.
      let its = row_of other among in
      finds other its.0 its.1))
  arrival_found from (Some arrival) finds =
      let name : List ℕ = arrival.name in
      let among = among_is name ∙ ap is_some finds.there in
      let rise = members_rise nat_list_cmp_total
      (set_of by_bytes (map (name_of naming) (members book.held))) in
      by_names from
      ∙ ap (option_map (arrival_at naming book))
      (least_found from name names rise among finds.reached (λ other has_name high.
      let its = row_of other has_name in
      finds.least other its.0 its.1 high))
      ∙ ap {B = Option Arrival} (λ entry. Some (record { name = name; entry = entry }))
      (sym (came_is name finds.row finds.there))
      ∙ ap Some (sym finds.own)
