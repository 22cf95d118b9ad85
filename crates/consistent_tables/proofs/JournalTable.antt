-- The journal's table, and by which entries records came: they are those of the book that consistent
-- tables determine, and its journal is one that calls can make.
use Rattle.std.proofs.Common.{◌≡◌, ◌∙◌, ◌<◌, ◌≤◌, ◌+◌, ◌==◌, ◌&&◌, ◌||◌, ℕ, suc, Bool, true}
use Rattle.std.proofs.Common.{false}
use Rattle.std.proofs.Common.{List, [], ◌∷◌, ◌++◌, Option, None, Some, ap, arith, cond, filter, inl}
use Rattle.std.proofs.Common.{inr, is_some, length, map, option_map, refl, subst, sym, true≢false}
use Rattle.std.proofs.Common.{append-nil, append_assoc, filter_map, length-append}
use Rattle.std.specs.Prelude.{if◌then◌else◌}
use Rattle.std.specs.FinMap.{entries, find, from_entries, get, get-from_entries}
use Rattle.std.specs.FinMap.{nat_cmp-IsAntisymmetric, same_map, values}
use Rattle.std.specs.Cmp.{nat_cmp_total}
use Rattle.std.specs.List.{AllByRecursion, list_any}
use Rattle.std.specs.Option.{option_map_or}
use Rattle.std.proofs.lemmas.Bool.{cases_Bool, eq-eqb, eqb-true}
use Rattle.std.proofs.lemmas.Bool.Decides.{nat_tests}
use Rattle.std.proofs.lemmas.Cmp.{nat_list_cmp_total}
use Rattle.std.proofs.lemmas.Map.Lookups.{exact_bytes}
use Rattle.std.proofs.lemmas.Map.Views.{tells_apart}
use Rattle.std.proofs.lemmas.Option.{none-some, same_Some}
use Rattle.book_model.specs.Words.{Entry, Naming, Records, by_bytes, has, kept_by, members, name_of}
use Rattle.book_model.specs.Words.{times_kept}
use Rattle.book_model.proofs.GivenLemmas.{any-given}
use Rattle.book_model.proofs.JournalLemmas.{times-cons}
use Rattle.book_model.proofs.ListLemmas.{list_any-map}
use Rattle.book_model.proofs.MapLemmas.{else_find, find-both}
use Rattle.book_model.proofs.RecordSets.{first_of, is, is_itself, second_of}
use Rattle.book_model.proofs.SetLemmas.{has-set_of}
use Rattle.book_model.proofs.SoundLemmas.{none_in}
use Rattle.table_model.specs.BookIn.{act_read, book_in, came_with, entries_read, journal_in}
use Rattle.table_model.specs.BookIn.{row_record}
use Rattle.table_model.specs.JournalRows.{act_row, came_entries, journal_row, journal_rows}
use Rattle.table_model.specs.Journaled.{IsJournaled}
use Rattle.table_model.specs.Tables.{ImportRow, JournalRow, RecordRow, RowAct, RulingRow, Tables}
use Rattle.table_model.specs.TablesOf.{tables_of, under_numbers}
use Rattle.table_model.specs.UnderNames.{under_names}
use Rattle.table_model.proofs.RowOrder.{list_any-filter}
use Rattle.consistent_tables.specs.Consistent.{AreConsistent, IsKeptBy}
use Rattle.consistent_tables.proofs.Entries.{each_entry, entry_there, made_again, one_entry}
use Rattle.consistent_tables.proofs.HeldRows.{HasRow, held, is_held, its_name, record_named, row_of}

-- ---- entries, the newest first, with an older one behind them

rows-behind : (newer : List Entry) (entry : Entry)
    → journal_rows (newer ++ entry ∷ []) ≡ journal_row entry ∷ journal_rows newer
rows-behind [] entry = refl
rows-behind (one ∷ newer) entry =
    ap (λ rows. rows ++ journal_row one ∷ []) (rows-behind newer entry)

times-behind : (newer : List Entry) (entry : Entry) (bytes : List ℕ)
    → times_kept (newer ++ entry ∷ []) bytes
    ≡ times_kept newer bytes + cond (has (kept_by entry.act) bytes) 1 0
times-behind [] entry bytes =
    let own = times-cons entry [] bytes in
    let none : times_kept [] bytes ≡ 0 = refl in
    omega (arith, own, none)
times-behind (one ∷ newer) entry bytes =
    let first = times-cons one (newer ++ entry ∷ []) bytes in
    let rest = times-behind newer entry bytes in
    let own = times-cons one newer bytes in
    omega (arith, first, rest, own)

-- the names of the records by the numbers of their entries, where so many entries came before
abbrev came_from : Naming → ℕ → List Entry → List (List ℕ × ℕ)
came_from naming base [] = []
came_from naming base (entry ∷ older) =
    under_names naming (length older + base + 1) (kept_by entry.act) ++ came_from naming base older

came-behind : (naming : Naming) (base : ℕ) (newer : List Entry) (entry : Entry)
    → came_from naming base (newer ++ entry ∷ [])
    ≡ came_from naming (suc base) newer ++ under_names naming (suc base) (kept_by entry.act)
came-behind naming base [] entry =
    let same : 0 + base + 1 ≡ suc base = omega arith in
    append-nil (under_names naming (0 + base + 1) (kept_by entry.act))
    ∙ ap (λ n. under_names naming n (kept_by entry.act)) same
came-behind naming base (one ∷ newer) entry =
    let count = length-append newer (entry ∷ []) in
    let same : length (newer ++ entry ∷ []) + base + 1 ≡ length newer + suc base + 1 =
    omega (arith, count) in
    let rest = came-behind naming base newer entry in
    (λ i. under_names naming (same i) (kept_by one.act) ++ rest i)
    ∙ sym (append_assoc (under_names naming (length newer + suc base + 1) (kept_by one.act))
    (came_from naming (suc base) newer) (under_names naming (suc base) (kept_by entry.act)))

came-whole : (naming : Naming) (list : List Entry)
    → came_from naming 0 list ≡ came_entries naming list
came-whole naming [] = refl
came-whole naming (entry ∷ older) =
    let same : length older + 0 + 1 ≡ length older + 1 = omega arith in
    let rest = came-whole naming older in
    λ i. under_names naming (same i) (kept_by entry.act) ++ rest i

-- ---- names of records

-- one of some records has the name
abbrev pub has_named : Naming → List ℕ → List (List ℕ) → Bool
has_named naming name = list_any (λ bytes. is name (name_of naming bytes))

pub find-named : (naming : Naming) (name : List ℕ) (number : ℕ) (all : List (List ℕ))
    → find by_bytes name (map {B = List ℕ × ℕ} (λ bytes. (name_of naming bytes, number)) all)
    ≡ (if has_named naming name all then Some number else None)
find-named naming name number [] = refl
find-named naming name number (bytes ∷ all) =
    let rest = find by_bytes name
    (map {B = List ℕ × ℕ} (λ bytes. (name_of naming bytes, number)) all) in
    elim (is name (name_of naming bytes)) as (λ b. cond b (Some number) rest
    ≡ cond (b || has_named naming name all) (Some number) None) [
      | true ↦ refl
      | false ↦ find-named naming name number all
    ]

-- a set has what it has a value for
some_unit : (found : Option (Unit {0})) → is_some found ≡ true → found ≡ Some tt
some_unit None some = absurd (true≢false (sym some))
some_unit (Some tt) some = refl

-- a record of a set has the name
pub named_one : (naming : Naming) (name : List ℕ) (records : Records)
    → has_named naming name (members records) ≡ true
    → (bytes : List ℕ) × (has records bytes ≡ true) × (name ≡ name_of naming bytes)
named_one naming name records named =
    let test : List ℕ → Bool = λ bytes. is name (name_of naming bytes) in
    let one = one_entry nat_list_cmp_total exact_bytes records (λ e. test e.0)
    (sym (list_any-map test (λ (e : List ℕ × Unit {0}). e.0) (entries records)) ∙ named) in (
      one.0.0,
      ap is_some one.1,
      tells_apart exact_bytes name (name_of naming one.0.0) one.2,
    )

named_there : (naming : Naming) (records : Records) (bytes : List ℕ) → has records bytes ≡ true
    → has_named naming (name_of naming bytes) (members records) ≡ true
named_there naming records bytes there =
    let name : List ℕ = name_of naming bytes in
    let test : List ℕ → Bool = λ one. is name (name_of naming one) in
    list_any-map test (λ (e : List ℕ × Unit {0}). e.0) (entries records)
    ∙ entry_there nat_list_cmp_total exact_bytes records (λ e. test e.0) bytes tt
    (some_unit (get records bytes) there) (is_itself name)

-- ---- the records that came by an entry

module _ (naming : Naming) (tables : Tables) (whole : AreConsistent naming tables) (number : ℕ)
  where
    -- those of a number
    abbrev came_by : Records
    came_by = came_with tables.records tables.came number

    -- the record of a name
    abbrev given : List ℕ × ℕ → Option (List ℕ)
    given one = option_map row_record (get tables.records one.0)

    -- a name came by the number, and is that of a record
    abbrev is_its : List ℕ → List ℕ × ℕ → Bool
    is_its bytes one = (one.1 == number) && option_map_or (is bytes) (given one) false

    has_by_names : (bytes : List ℕ)
        → has came_by bytes ≡ list_any (is_its bytes) (entries tables.came)
    has_by_names bytes =
        let all : List (List ℕ × ℕ) = entries tables.came in
        let own : List ℕ × ℕ → Bool = λ one. one.1 == number in
        let its : List ℕ × ℕ → Bool = λ one. option_map_or (is bytes) (given one) false in
        has-set_of nat_list_cmp_total (filter_map given (filter own all)) bytes
        ∙ any-given (is bytes) given (filter own all)
        ∙ list_any-filter its own all

    -- such a record is held, and its name came by the number
    came_there : (bytes : List ℕ) → has came_by bytes ≡ true
        → HasRow naming tables bytes × (get tables.came (name_of naming bytes) ≡ Some number)
    came_there bytes there =
        let one = one_entry nat_list_cmp_total exact_bytes tables.came (is_its bytes)
        (sym (has_by_names bytes) ∙ there) in
        let its : Bool = option_map_or (is bytes) (given one.0) false in
        let same : one.0.1 ≡ number =
        eqb-true one.0.1 number (first_of (one.0.1 == number) its one.2) in
        let found = record_named bytes (get tables.records one.0.0)
        (second_of (one.0.1 == number) its one.2) in
        let name : one.0.0 ≡ name_of naming bytes =
        its_name naming tables whole one.0.0 found.0 found.1 ∙ ap (name_of naming) (sym found.2) in (
          row_of naming tables whole bytes
              (ap (has (held naming tables whole)) found.2
              ∙ is_held naming tables whole one.0.0 found.0 found.1),
          ap (get tables.came) (sym name) ∙ one.1 ∙ ap Some same,
        )

    -- so the record of a row is among them if its name came by the number
    has_came : (name : List ℕ) (row : RecordRow) → get tables.records name ≡ Some row
        → get tables.came name ≡ Some number → has came_by (row_record row) ≡ true
    has_came name row there came =
        let own = ap (λ found. option_map_or (is (row_record row)) (option_map row_record found)
        false) there ∙ is_itself (row_record row) in
        has_by_names (row_record row)
        ∙ entry_there nat_list_cmp_total exact_bytes tables.came (is_its (row_record row)) name number
        came (λ i. eq-eqb number number refl i && own i)

module _ (naming : Naming) (tables : Tables) (whole : AreConsistent naming tables) where
  abbrev kept : ℕ → Records
  kept = came_with tables.records tables.came

  -- a row says what came by its number
  abbrev Says : ℕ × JournalRow → Type 0
  Says one = IsKeptBy (kept one.0) one.1.act

  abbrev entry_of : ℕ → JournalRow → Entry
  entry_of number row = record { note = row.note; act = act_read (kept number) row.act }

  -- each does
  each_says : AllByRecursion Says (under_numbers 1 (values tables.journal))
  each_says =
      subst (AllByRecursion Says) whole.entered
      (each_entry nat_cmp_total nat_cmp-IsAntisymmetric Says tables.journal whole.kept)

  -- ---- the rows are those of the journal that is read of them

  act-back : (records : Records) (act : RowAct) → IsKeptBy records act
      → act_row (act_read records act) ≡ act
  act-back records (RulingRow place) says = refl
  act-back records (ImportRow reading None count) says = ap (ImportRow reading None) (sym says)
  act-back records (ImportRow reading (Some ending) count) says =
      ap (ImportRow reading (Some ending)) (sym says)

  row-back : (number : ℕ) (row : JournalRow) → Says (number, row)
      → journal_row (entry_of number row) ≡ row
  row-back number row says = λ i. record row { act = act-back (kept number) row.act says i }

  rows-back : (number : ℕ) (list : List JournalRow) → AllByRecursion Says (under_numbers number list)
      → journal_rows (entries_read kept number list) ≡ list
  rows-back number [] all = refl
  rows-back number (row ∷ later) all =
      let own = row-back number row all.0 in
      let rest = rows-back (suc number) later all.1 in
      rows-behind (entries_read kept (suc number) later) (entry_of number row)
      ∙ (λ i. own i ∷ rest i)

  pub journal_are : tables.journal ≡ (tables_of naming (book_in tables)).journal
  journal_are =
      sym (made_again nat_cmp_total nat_cmp-IsAntisymmetric tables.journal)
      ∙ ap from_entries (whole.entered
      ∙ ap (under_numbers 1) (sym (rows-back 1 (values tables.journal) each_says)))

  -- ---- the journal is one that calls can make

  -- what the entry of a number kept came by the number
  own_kept : (number : ℕ) (act : RowAct) (bytes : List ℕ)
      → has (kept_by (act_read (kept number) act)) bytes ≡ true → has (kept number) bytes ≡ true
  own_kept number (RulingRow place) bytes there =
      absurd (true≢false (sym there ∙ none_in bytes))
  own_kept number (ImportRow reading None count) bytes there = there
  own_kept number (ImportRow reading (Some ending) count) bytes there = there

  -- what came by no number from one on, none of its entries kept
  times_none : (number : ℕ) (list : List JournalRow) (bytes : List ℕ)
      → ((n : ℕ) → number ≤ n → has (kept n) bytes ≡ true → ⊥)
      → times_kept (entries_read kept number list) bytes ≡ 0
  times_none number [] bytes never = refl
  times_none number (row ∷ later) bytes never =
      let own : Bool = has (kept_by (entry_of number row).act) bytes in
      let behind = times-behind (entries_read kept (suc number) later) (entry_of number row) bytes in
      let rest = times_none (suc number) later bytes (λ n above. never n (omega (arith, above))) in
      elim (cases_Bool own) [
        | inl there ↦ absurd (never number (omega arith) (own_kept number row.act bytes there))
        | inr out ↦
            let none = ap {B = ℕ} (λ b. cond b 1 0) out in
            omega (arith, behind, rest, none)
      ]

  -- no record was kept by two
  times_once : (number : ℕ) (list : List JournalRow) (bytes : List ℕ)
      → times_kept (entries_read kept number list) bytes ≤ 1
  times_once number [] bytes =
      let none : times_kept [] bytes ≡ 0 = refl in
      omega (arith, none)
  times_once number (row ∷ later) bytes =
      let own : Bool = has (kept_by (entry_of number row).act) bytes in
      let behind = times-behind (entries_read kept (suc number) later) (entry_of number row) bytes in
      elim (cases_Bool own) [
        | inl there ↦
            let mine = (came_there naming tables whole number bytes
            (own_kept number row.act bytes there)).1 in
            let rest = times_none (suc number) later bytes (λ n above among.
            let other = (came_there naming tables whole n bytes among).1 in
            let same : number ≡ n = same_Some number n (sym mine ∙ other) in
            absurd (omega (arith, above, same))) in
            let one = ap {B = ℕ} (λ b. cond b 1 0) there in
            omega (arith, behind, rest, one)
        | inr out ↦
            let rest = times_once (suc number) later bytes in
            let none = ap {B = ℕ} (λ b. cond b 1 0) out in
            omega (arith, behind, rest, none)
      ]

  -- what an entry kept is held
  came_held : (number : ℕ) (bytes : List ℕ) → has (kept number) bytes ≡ true
      → has (book_in tables).held bytes ≡ true
  came_held number bytes among =
      let its = (came_there naming tables whole number bytes among).0 in
      ap (has (held naming tables whole)) (sym its.is)
      ∙ is_held naming tables whole (name_of naming bytes) its.row its.found

  pub journaled : IsJournaled (book_in tables)
  journaled = record {
    held = λ bytes out.
        times_none 1 (values tables.journal) bytes (λ n above among.
        true≢false (sym (came_held n bytes among) ∙ out));
    once = times_once 1 (values tables.journal);
  }

  -- ---- by which entries records came

  -- the name of a record that the entry of a number kept came by the number
  own_name : (number : ℕ) (row : JournalRow) (name : List ℕ)
      → has_named naming name (members (kept_by (entry_of number row).act)) ≡ true
      → get tables.came name ≡ Some number
  own_name number row name named =
      let one = named_one naming name (kept_by (entry_of number row).act) named in
      ap (get tables.came) one.2
      ∙ (came_there naming tables whole number one.0 (own_kept number row.act one.0 one.1)).1

  -- and a name that came by it is that of such a record
  its_record : (number : ℕ) (act : RowAct) (name : List ℕ) → IsKeptBy (kept number) act
      → get tables.came name ≡ Some number
      → has_named naming name (members (kept_by (act_read (kept number) act))) ≡ true
  its_record number (RulingRow place) name says came =
      let own = whole.came name number came in
      absurd (true≢false
      (sym (has_came naming tables whole number name own.row own.held came)
      ∙ says (row_record own.row)))
  its_record number (ImportRow reading None count) name says came =
      let own = whole.came name number came in
      ap (λ name. has_named naming name (members (kept number)))
      (its_name naming tables whole name own.row own.held)
      ∙ named_there naming (kept number) (row_record own.row)
      (has_came naming tables whole number name own.row own.held came)
  its_record number (ImportRow reading (Some ending) count) name says came =
      let own = whole.came name number came in
      ap (λ name. has_named naming name (members (kept number)))
      (its_name naming tables whole name own.row own.held)
      ∙ named_there naming (kept number) (row_record own.row)
      (has_came naming tables whole number name own.row own.held came)

  -- a name that came by none of some numbers is not found with them
  found_none : (base : ℕ) (list : List JournalRow) (name : List ℕ)
      → ((n : ℕ) → base < n → n ≤ base + length list → get tables.came name ≡ Some n → ⊥)
      → find by_bytes name (came_from naming base (entries_read kept (suc base) list)) ≡ None
  found_none base [] name never = refl
  found_none base (row ∷ later) name never =
      let newer : List Entry = entries_read kept (suc (suc base)) later in
      let own : List (List ℕ) = members (kept_by (entry_of (suc base) row).act) in
      let rest = found_none (suc base) later name (λ n above within came.
      never n (omega (arith, above)) (omega (arith, within)) came) in
      elim (cases_Bool (has_named naming name own)) [
        | inl named ↦
            absurd (never (suc base) (omega arith) (omega arith) (own_name (suc base) row name named))
        | inr other ↦
            let none = find-named naming name (suc base) own
            ∙ ap (λ b. cond b (Some (suc base)) None) other in
            ap (find by_bytes name) (came-behind naming base newer (entry_of (suc base) row))
            ∙ find-both by_bytes name (came_from naming (suc base) newer)
            (under_names naming (suc base) (kept_by (entry_of (suc base) row).act))
            ∙ (λ i. else_find (rest i) (none i))
      ]

  -- one that came by one of them is found with it
  found_some : (base : ℕ) (list : List JournalRow) (name : List ℕ) (n : ℕ)
      → AllByRecursion Says (under_numbers (suc base) list) → get tables.came name ≡ Some n
      → base < n → n ≤ base + length list
      → find by_bytes name (came_from naming base (entries_read kept (suc base) list)) ≡ Some n
  found_some base [] name n all came above within = absurd (omega (arith, above, within))
  found_some base (row ∷ later) name n all came above within =
      let newer : List Entry = entries_read kept (suc (suc base)) later in
      let own : Records = kept_by (entry_of (suc base) row).act in
      let both = ap (find by_bytes name) (came-behind naming base newer (entry_of (suc base) row))
      ∙ find-both by_bytes name (came_from naming (suc base) newer)
      (under_names naming (suc base) own) in
      elim (cases_Bool (suc base == n)) [
        | inl tied ↦
            let same : suc base ≡ n = eqb-true (suc base) n tied in
            let rest = found_none (suc base) later name (λ m over upto other.
            let is : n ≡ m = same_Some n m (sym came ∙ other) in
            absurd (omega (arith, over, same, is))) in
            let named = its_record (suc base) row.act name all.0 (came ∙ ap Some (sym same)) in
            let mine = find-named naming name (suc base) (members own)
            ∙ ap (λ b. cond b (Some (suc base)) None) named in
            both ∙ (λ i. else_find (rest i) (mine i)) ∙ ap Some same
        | inr apart ↦
            let differ : suc base ≡ n → ⊥ = λ is. true≢false (sym (eq-eqb (suc base) n is) ∙ apart) in
            let over : suc base < n = beyond base n above differ in
            let rest = found_some (suc base) later name n all.1 came over (omega (arith, within)) in
            both ∙ ap (λ found. else_find found (find by_bytes name (under_names naming (suc base) own)))
            rest
      ]
    where
      beyond : (base n : ℕ) → base < n → (suc base ≡ n → ⊥) → suc base < n
      beyond base n above differ = elim (cases_Bool (suc base == n)) [
        | inl tied ↦ absurd (differ (eqb-true (suc base) n tied))
        | inr apart ↦ grind (arith, nat_tests, above, apart)
      ]

  -- so each name is found with the number by which it came
  found_as : (name : List ℕ) (found : Option ℕ) → get tables.came name ≡ found
      → find by_bytes name (came_from naming 0 (journal_in tables)) ≡ found
  found_as name None none =
      found_none 0 (values tables.journal) name (λ n above within came.
      none-some n (sym none ∙ came))
  found_as name (Some n) came =
      let own = whole.came name n came in
      found_some 0 (values tables.journal) name n each_says came own.numbered
      (omega (arith, own.there))

  pub came_are : tables.came ≡ (tables_of naming (book_in tables)).came
  came_are =
      same_map nat_list_cmp_total exact_bytes tables.came
      (from_entries {R = by_bytes} (came_entries naming (journal_in tables))) (λ name.
      sym (get-from_entries nat_list_cmp_total (came_entries naming (journal_in tables)) name
      ∙ ap (find by_bytes name) (sym (came-whole naming (journal_in tables)))
      ∙ found_as name (get tables.came name) refl))
