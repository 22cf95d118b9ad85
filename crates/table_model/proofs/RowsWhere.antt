-- The rows of a book's records that pass a test: they are those of the records that pass another.
use Rattle.std.proofs.Common.{◌≡◌, ℕ, suc, List, [], ◌∷◌, length, refl, sym, ap, ◌∙◌, subst, true}
use Rattle.std.proofs.Common.{false, true≢false, Bool, ◌&&◌, ◌||◌, Option, Some, None, Contains}
use Rattle.std.proofs.Common.{IsSome, filter, ◌==◌, filter_map, IsPermutation, option_map}
use Rattle.std.proofs.Math.Bool.{or-true}
use Rattle.std.proofs.lemmas.List.Folds.{Any-from_list_any}
use Rattle.std.proofs.lemmas.Map.Views.{list_any-from_Contains}
use Rattle.book_model.proofs.Std.{entries, list_any, cons_option, IsStrictlySortedBy}
use Rattle.book_model.proofs.Std.{nat_list_cmp_total, eq_by_cmp_equiv, length_permutation}
use Rattle.book_model.proofs.Std.{list_any-IsPermutation, length-filter, sorted_tail, exact_bytes}
use Rattle.book_model.specs.Words.{Priced, Book, Records, Naming, name_of, by_bytes, identity_by}
use Rattle.book_model.specs.Words.{is_unrivalled, members, has, those, same_bytes, IsSound}
use Rattle.book_model.specs.Words.{AreAmong}
use Rattle.book_model.proofs.Lemmas.{Apart, is, is_first, has_those, same_records, second_of}
use Rattle.book_model.proofs.Lemmas.{fails_too, members-those, members_rise}
use Rattle.book_model.proofs.FilterLemmas.{permuted_one, filter-filter_map, filter-from_entries}
use Rattle.book_model.proofs.SetChanges.{not_first}
use Rattle.table_model.specs.Words.{RecordRow, RecordTable, RecordStatus, entry_by, row_by}
use Rattle.table_model.specs.Words.{status_by, tables_at, rows_with}
use Rattle.table_model.proofs.OpenNames.{names_differ}
use Rattle.table_model.proofs.RecordChanges.{no_entry}
use Rattle.table_model.proofs.Rivals.{having, alone_where}
use Rattle.table_model.proofs.TableParts.{what_is}
use Rattle.std.specs.FinMap as fin

-- what is among those members of a set that pass a test
pub among-filter : (p : List ℕ → Bool) (s : Records) (q : List ℕ)
    → list_any (is q) (filter p (members s)) ≡ (p q && has s q)
among-filter p s q =
    ap (list_any (is q)) (sym (members-those nat_list_cmp_total exact_bytes p s))
    ∙ sym (fin.contains_key-keys (those p s) q) ∙ has_those p s q

-- the records of a set that are in a smaller one are that one
pub those_among : (some all : Records) → AreAmong some all → those (has some) all ≡ some
those_among some all among =
    same_records (those (has some) all) some (λ bytes.
    has_those (has some) all bytes ∙ both (has some bytes) (has all bytes) (among bytes))
  where
    both : (a b : Bool) → (a ≡ true → b ≡ true) → (a && b) ≡ a
    both true b there = there refl
    both false b there = refl

-- a record of a set that passes a test, if one does
pub one_passes : (p : List ℕ → Bool) (s : Records) → list_any p (members s) ≡ true
    → (bytes : List ℕ) × (has s bytes ≡ true) × (p bytes ≡ true)
one_passes p s some =
    let passing = Any-from_list_any p (members s) some in
    let one : List ℕ = passing.1 in
    let place : Contains (members s) one = (passing.0, passing.2, passing.3) in
    let there =
    fin.contains_key-keys s one
    ∙ list_any-from_Contains (eq_by_cmp_equiv nat_list_cmp_total) one (members s) place in
    (one, there, passing.4)

-- a record of a set that passes a test is one that does
pub some_passes : (p : List ℕ → Bool) (s : Records) (bytes : List ℕ) → has s bytes ≡ true
    → p bytes ≡ true → list_any p (members s) ≡ true
some_passes p s bytes there passes =
    elim (list_any p (members s)) as (λ b. list_any p (members s) ≡ b → b ≡ true) [
      | true ↦ λ e. refl
      | false ↦ λ none. absurd (true≢false (sym passes
          ∙ fails_too nat_list_cmp_total exact_bytes p s bytes none there))
    ] refl

-- the records of a list are members of a set
abbrev pub AreMembers : Records → List (List ℕ) → Type 0
AreMembers held ks = (bytes : List ℕ) → list_any (is bytes) ks ≡ true → has held bytes ≡ true

-- so is the first of them, and so are the others
pub first_held : (held : Records) (k : List ℕ) (ks : List (List ℕ)) → AreMembers held (k ∷ ks)
    → has held k ≡ true
first_held held k ks all = all k (is_first k ks)

pub others_held : (held : Records) (k : List ℕ) (ks : List (List ℕ)) → AreMembers held (k ∷ ks)
    → AreMembers held ks
others_held held k ks all other among =
    all other (ap (λ b. is other k || b) among ∙ or-true (is other k))

-- all its members are
pub members_held : (held : Records) → AreMembers held (members held)
members_held held bytes among = fin.contains_key-keys held bytes ∙ among

-- and those that pass a test
pub passing_held : (p : List ℕ → Bool) (held : Records) → AreMembers held (filter p (members held))
passing_held p held bytes among =
    second_of (p bytes) (has held bytes) (sym (among-filter p held bytes) ∙ among)

-- all elements pass where nothing is asked
filter_all : {X : Type 0} (xs : List X) → filter (λ (x : X). true) xs ≡ xs
filter_all [] = refl
filter_all (x ∷ xs) = ap (λ rest. x ∷ rest) (filter_all xs)

-- Each record that is held has a price.
module _ (naming : Naming) (book : Book) (sound : IsSound naming book) (standing : RecordStatus)
    (priced : (one : List ℕ) → has book.held one ≡ true → IsSome (standing.price one)) where
  -- the table of the records
  abbrev table : RecordTable
  table = (tables_at naming book standing).records

  -- the entry of a record, and the same at a price
  abbrev entry : List ℕ → Option (List ℕ × RecordRow)
  entry = entry_by naming standing book.posted

  abbrev entry_at : List ℕ → Priced → List ℕ × RecordRow
  entry_at bytes cost =
      (name_of naming bytes, row_by standing.identity standing.charged book.posted bytes cost)

  -- no two of them have one name
  pub entries_apart : (ks : List (List ℕ)) → IsStrictlySortedBy by_bytes ks
      → AreMembers book.held ks → Apart by_bytes (filter_map entry ks)
  entries_apart [] rising held = tt
  entries_apart (k ∷ ks) rising held =
      let others = others_held book.held k ks held in
      let rest = entries_apart ks (sorted_tail by_bytes k ks rising) others in
      let unnamed = no_entry naming standing.price standing.identity book.posted
      (name_of naming k) standing.charged ks (λ bytes among.
      names_differ naming book sound k bytes (first_held book.held k ks held) (others bytes among)
      (not_first k ks rising bytes among)) in
      elim (standing.price k) as (λ price. Apart by_bytes
      (cons_option (option_map {T = Priced} {U = List ℕ × RecordRow} (entry_at k) price)
      (filter_map entry ks))) [
        | None ↦ rest
        | Some cost ↦ (unnamed, rest)
      ]

  -- the first has an entry, before those of the others,
  pub first_entry : (k : List ℕ) (ks : List (List ℕ)) → AreMembers book.held (k ∷ ks)
      → (cost : Priced) × (standing.price k ≡ Some cost)
      × (filter_map entry (k ∷ ks) ≡ entry_at k cost ∷ filter_map entry ks)
  first_entry k ks held =
      let cost = what_is (standing.price k) (priced k (first_held book.held k ks held)) in (
        cost.0,
        cost.1,
        ap (λ price. cons_option
            (option_map {T = Priced} {U = List ℕ × RecordRow} (entry_at k) price)
            (filter_map entry ks)) cost.1,
      )

  -- and there are as many
  count_given : (ks : List (List ℕ)) → AreMembers book.held ks
      → length (filter_map entry ks) ≡ length ks
  count_given [] held = refl
  count_given (k ∷ ks) held =
      let first = first_entry k ks held in
      ap length first.2 ∙ ap suc (count_given ks (others_held book.held k ks held))

  -- where rows pass a test as their records pass another
  module _ (p : List ℕ × RecordRow → Bool) (q : List ℕ → Bool)
      (agree : (bytes : List ℕ) (cost : Priced) → standing.price bytes ≡ Some cost
      → p (entry_at bytes cost) ≡ q bytes) where
    -- the rows that pass, and the records that do
    abbrev rows : List (List ℕ × RecordRow)
    rows = filter p (entries table)

    abbrev passing : List (List ℕ)
    passing = filter q (members book.held)

    -- the rows are those of the records, in some order
    pub rows_where : IsPermutation rows (filter_map entry passing)
    rows_where =
        subst (IsPermutation rows)
        (filter-filter_map entry p q (λ bytes row given.
        by_price bytes row (standing.price bytes) refl given) (members book.held))
        (filter-from_entries nat_list_cmp_total exact_bytes p (filter_map entry (members book.held))
        (entries_apart (members book.held) (members_rise nat_list_cmp_total book.held)
        (members_held book.held)))
      where
        by_price : (bytes : List ℕ) (row : List ℕ × RecordRow) (price : Option Priced)
            → standing.price bytes ≡ price
            → option_map {T = Priced} {U = List ℕ × RecordRow} (entry_at bytes) price ≡ Some row
            → p row ≡ q bytes
        by_price bytes row None none given = cc
        by_price bytes row (Some cost) some given =
            let own : entry_at bytes cost ≡ row = cc in
            ap p (sym own) ∙ agree bytes cost some

    -- so there are as many rows,
    pub count_where : length rows ≡ length passing
    count_where =
        sym (length_permutation rows (filter_map entry passing) rows_where)
        ∙ count_given passing (passing_held q book.held)

    -- and if one record passes, its row is the only one
    pub one_where : (one : List ℕ) → passing ≡ one ∷ []
        → (cost : Priced) × (standing.price one ≡ Some cost)
        × (rows ≡ entry_at one cost ∷ [])
    one_where one listed =
        let first = first_entry one [] (subst (AreMembers book.held) listed
        (passing_held q book.held)) in (
          first.0,
          first.1,
          permuted_one rows (entry_at one first.0) (subst (IsPermutation rows)
              (ap (filter_map entry) listed ∙ first.2) rows_where),
        )

    -- one of the rows passes if one of the records does
    any_entry : (ks : List (List ℕ)) → AreMembers book.held ks
        → list_any p (filter_map entry ks) ≡ list_any q ks
    any_entry [] held = refl
    any_entry (k ∷ ks) held =
        let first = first_entry k ks held in
        ap (list_any p) first.2
        ∙ (λ i. agree k first.0 first.1 i || any_entry ks (others_held book.held k ks held) i)

  -- all rows are those of all records
  pub all_rows : IsPermutation (entries table) (filter_map entry (members book.held))
  all_rows =
      subst (λ es. IsPermutation es (filter_map entry (members book.held)))
      (filter_all (entries table))
      (subst (λ ks. IsPermutation (filter (λ row. true) (entries table)) (filter_map entry ks))
      (filter_all (members book.held))
      (rows_where (λ row. true) (λ bytes. true) (λ bytes cost costs. refl)))

  -- so one of them passes a test if one of the records passes the other
  pub any_row : (p : List ℕ × RecordRow → Bool) (q : List ℕ → Bool)
      → ((bytes : List ℕ) (cost : Priced) → standing.price bytes ≡ Some cost
      → p (entry_at bytes cost) ≡ q bytes)
      → list_any p (entries table) ≡ list_any q (members book.held)
  any_row p q agree =
      list_any-IsPermutation p (entries table) (filter_map entry (members book.held)) all_rows
      ∙ any_entry p q agree (members book.held) (members_held book.held)

-- a record has the only row of its identity if it has no rival
pub lone_where : (naming : Naming) (book : Book) → IsSound naming book → (charged : Records)
    (bytes : List ℕ) → has book.held bytes ≡ true
    → (length (rows_with (identity_by book.rulings bytes)
    (tables_at naming book (status_by book.rulings charged)).records) == 1)
    ≡ is_unrivalled book.rulings book.held bytes
lone_where naming book sound charged bytes there =
    let id : List ℕ = identity_by book.rulings bytes in
    let own : List ℕ → Bool = having book.rulings book.held id in
    ap (λ n. n == 1)
    (count_where naming book sound (status_by book.rulings charged) sound.priced
    (λ row. same_bytes row.1.identity id) own (λ other cost costs. refl)
    ∙ length-filter own (members book.held))
    ∙ alone_where book.rulings book.held bytes there
