-- A walk over the rows of the records, by their names: it meets each record that is held once.
use Rattle.std.proofs.Common.{◌≡◌, ◌⊎◌, inl, inr, ℕ, List, [], ◌∷◌, refl, sym, ap, ◌∙◌, true, false}
use Rattle.std.proofs.Common.{Bool, cond, ◌&&◌, ◌||◌, Some, subst, IsSome}
use Rattle.std.proofs.Math.Bool.{and-true, or-true}
use Rattle.book_model.proofs.Std.{get, keys, entries, entries_sorted, list_any, IsStrictlySortedBy}
use Rattle.book_model.proofs.Std.{sorted_tail, exact_bytes, tells_apart}
use Rattle.book_model.specs.Words.{Priced, day_of, Book, open_number, is_dated_after, Naming}
use Rattle.book_model.specs.Words.{name_of, by_bytes, last_close, members, has, those, IsSound}
use Rattle.book_model.specs.Words.{AreAmong}
use Rattle.book_model.proofs.Lemmas.{list_any-map, is, is_first, is_itself, has_those, in_those}
use Rattle.book_model.proofs.Lemmas.{is_back, keys_rise}
use Rattle.book_model.proofs.SetChanges.{not_first}
use Rattle.table_model.proofs.RestatedRows.{restate}
use Rattle.table_model.specs.Words.{walk, RecordRow, RecordTable, Tables, RecordStatus, tables_at}
use Rattle.table_model.proofs.OpenNames.{names_differ}
use Rattle.table_model.proofs.Restated.{IsStatus, StatusAt, restated, row-found, row_for, status_at}
use Rattle.table_model.proofs.Restated.{tables-alike}
use Rattle.table_model.proofs.RowsWhere.{any_row, one_passes, some_passes}
use Rattle.table_model.proofs.TableParts.{what_is}

-- three tests of which one holds, in another order
pub or_turn : (a b c : Bool) → (a || (b || c)) ≡ ((b || a) || c)
or_turn true true c = refl
or_turn true false c = refl
or_turn false true c = refl
or_turn false false c = refl

module _ (naming : Naming) (book : Book) (sound : IsSound naming book) (standing : RecordStatus)
    (status : IsStatus book standing) where
  -- the table of the records
  abbrev table : RecordTable
  table = (tables_at naming book standing).records

  -- a name is a key if it is that of a record that is held
  keys_where : (name : List ℕ) → list_any (is name) (keys table)
      ≡ list_any (λ one. is name (name_of naming one)) (members book.held)
  keys_where name =
      list_any-map (is name) (λ (entry : List ℕ × RecordRow). entry.0) (entries table)
      ∙ any_row naming book sound standing status.priced (λ entry. is name entry.0)
      (λ one. is name (name_of naming one)) (λ one cost costs. refl)

  -- so each key is the name of one,
  pub key_named : (name : List ℕ) → list_any (is name) (keys table) ≡ true
      → (one : List ℕ) × (has book.held one ≡ true) × (name_of naming one ≡ name)
  key_named name on =
      let found = one_passes (λ one. is name (name_of naming one)) book.held
      (sym (keys_where name) ∙ on) in
      (found.0, found.1, sym (tells_apart exact_bytes name (name_of naming found.0) found.2))

  -- and the name of each is a key
  pub key_there : (one : List ℕ) → has book.held one ≡ true
      → list_any (is (name_of naming one)) (keys table) ≡ true
  key_there one there =
      keys_where (name_of naming one)
      ∙ some_passes (λ other. is (name_of naming one) (name_of naming other)) book.held one there
      (is_itself (name_of naming one))

  -- keys are in order
  keys_in_order : IsStrictlySortedBy by_bytes (keys table)
  keys_in_order = keys_rise by_bytes (entries table) (entries_sorted table)

  -- What a step does for the name of each record that is held, a walk does for all of them, where T
  -- gives the tables by the names that are done.
  module _ (T : (List ℕ → Bool) → Tables) (step : List ℕ → Tables → Tables)
      (one_step : (done : List ℕ → Bool) (one : List ℕ) → has book.held one ≡ true
      → done (name_of naming one) ≡ false
      → step (name_of naming one) (T done) ≡ T (λ name. is name (name_of naming one) || done name))
    where
      walk_on : (names : List (List ℕ)) (done : List ℕ → Bool)
          → IsStrictlySortedBy by_bytes names
          → ((name : List ℕ) → list_any (is name) names ≡ true
          → (one : List ℕ) × (has book.held one ≡ true) × (name_of naming one ≡ name))
          → ((name : List ℕ) → list_any (is name) names ≡ true → done name ≡ false)
          → walk step names (T done) ≡ T (λ name. list_any (is name) names || done name)
      walk_on [] done rising named fresh = refl
      walk_on (first ∷ names) done rising named fresh =
          let on : list_any (is first) (first ∷ names) ≡ true =
          is_first first names in
          let own = named first on in
          let later = λ (name : List ℕ) (among : list_any (is name) names ≡ true).
          ap (λ b. is name first || b) among ∙ or-true (is name first) in
          let new : List ℕ → Bool = λ name. is name first || done name in
          let stepped : step first (T done) ≡ T new =
          (λ i. step (sym own.2 i) (T done))
          ∙ one_step done own.0 own.1 (ap done own.2 ∙ fresh first on)
          ∙ (λ i. T (λ name. is name (own.2 i) || done name)) in
          ap (walk step names) stepped
          ∙ walk_on names new (sorted_tail by_bytes first names rising)
          (λ name among. named name (later name among))
          (λ name among. (λ i. not_first first names rising name among i || done name)
          ∙ fresh name (later name among))
          ∙ (λ i. T (λ name. or_turn (list_any (is name) names) (is name first) (done name) i))

      -- so after the walk all names are done
      pub walk_all : walk step (keys table) (T (λ name. false))
          ≡ T (λ name. list_any (is name) (keys table) || false)
      walk_all = walk_on (keys table) (λ name. false) keys_in_order key_named (λ name among. refl)

-- Each record that is held goes from one status to another, where what closed periods count keeps
-- its price.
module _ (naming : Naming) (book : Book) (sound : IsSound naming book) (from to : RecordStatus)
    (was : IsStatus book from) (becomes : IsStatus book to)
    (settled : (q : List ℕ) → has book.held q ≡ true
    → is_dated_after (last_close book.rulings) q ≡ false → from.price q ≡ to.price q) where
  -- a record's row, by what is said of it
  abbrev row : List ℕ → StatusAt → Priced → RecordRow
  row = row_for book

  abbrev tables : RecordStatus → Tables
  tables = tables_at naming book

  -- a step of a walk restates a record, or leaves one that has the same status in both
  abbrev pub StepsOne : (List ℕ → Tables → Tables) → Tables → List ℕ → Priced → Priced → Type 0
  StepsOne step tables one cost costs =
      (step (name_of naming one) tables
      ≡ restate (open_number book) (last_close book.rulings) (name_of naming one)
      (row one (status_at from one) cost) (row one (status_at to one) costs) tables)
      ⊎ ((status_at from one ≡ status_at to one) × (step (name_of naming one) tables ≡ tables))

  abbrev pub Restates : (List ℕ → Tables → Tables) → Type 0
  Restates step =
      (one : List ℕ) → has book.held one ≡ true → (cost costs : Priced)
      → from.price one ≡ Some cost → to.price one ≡ Some costs → (tables : Tables)
      → get tables.records (name_of naming one) ≡ Some (row one (status_at from one) cost)
      → StepsOne step tables one cost costs

  -- the status while a walk is on, of one record and of all
  abbrev pub its : (List ℕ → Bool) → List ℕ → StatusAt
  its done q = cond (done (name_of naming q)) (status_at to q) (status_at from q)

  abbrev pub between : (List ℕ → Bool) → RecordStatus
  between done = record {
    price = λ q. (its done q).price;
    identity = λ q. (its done q).identity;
    charged = those (λ q. (its done q).charged) book.held;
  }

  pub is_between : (done : List ℕ → Bool) (q : List ℕ) → has book.held q ≡ true
      → status_at (between done) q ≡ its done q
  is_between done q held = λ i. record (its done q) {
    charged = (has_those (λ q. (its done q).charged) book.held q
        ∙ ap (λ h. (its done q).charged && h) held ∙ and-true (its done q).charged) i;
  }

  pub among : (done : List ℕ → Bool) → AreAmong (between done).charged book.held
  among done q on = in_those (λ q. (its done q).charged) book.held q on

  pub status : (done : List ℕ → Bool) → IsStatus book (between done)
  status done = record {
    charged = among done;
    priced = λ q held. elim (done (name_of naming q)) as (λ b.
        IsSome (cond b (status_at to q) (status_at from q)).price) [
          | true ↦ becomes.priced q held
          | false ↦ was.priced q held
        ];
    dated = λ q cost. elim (done (name_of naming q)) as (λ b.
        (cond b (status_at to q) (status_at from q)).price ≡ Some cost → cost.day ≡ day_of q) [
          | true ↦ becomes.dated q cost
          | false ↦ was.dated q cost
        ];
  }

  module _ (step : List ℕ → Tables → Tables) (restates : Restates step) (done : List ℕ → Bool)
      (one : List ℕ) (there : has book.held one ≡ true)
      (fresh : done (name_of naming one) ≡ false) where
    abbrev name : List ℕ
    name = name_of naming one

    abbrev next : List ℕ → Bool
    next n = is n name || done n

    -- the record before the step and after it, and the others
    before : status_at (between done) one ≡ status_at from one
    before = is_between done one there ∙ ap (λ b. cond b (status_at to one) (status_at from one)) fresh

    after : status_at (between next) one ≡ status_at to one
    after = is_between next one there
        ∙ ap (λ b. cond (b || done name) (status_at to one) (status_at from one)) (is_itself name)

    others : (q : List ℕ) → has book.held q ≡ true → is q one ≡ false
        → status_at (between done) q ≡ status_at (between next) q
    others q held apart =
        is_between done q held
        ∙ ap (λ b. cond (b || done (name_of naming q)) (status_at to q) (status_at from q))
        (sym (names_differ naming book sound q one held there (is_back one q ∙ apart)))
        ∙ sym (is_between next q held)

    pub one_step : step name (tables (between done)) ≡ tables (between next)
    one_step =
        let cost = what_is (from.price one) (was.priced one there) in
        let costs = what_is (to.price one) (becomes.priced one there) in
        let its_cost = ap (λ its. its.price) before ∙ cost.1 in
        by_case cost.0 costs.0
        (restated naming book sound (between done) (between next) (status done) (status next) one
        there others (λ late. ap (λ its. its.price) before ∙ settled one there late
        ∙ sym (ap (λ its. its.price) after)) cost.0 costs.0 its_cost
        (ap (λ its. its.price) after ∙ costs.1)
        ∙ (λ i. restate (open_number book) (last_close book.rulings) name
        (row one (before i) cost.0) (row one (after i) costs.0) (tables (between done))))
        (restates one there cost.0 costs.0 cost.1 costs.1 (tables (between done))
        (row-found naming book sound (between done).price (between done).identity
        (between done).charged one there cost.0 its_cost
        ∙ ap (λ its. Some (row one its cost.0)) before))
      where
        by_case : (cost costs : Priced)
            → tables (between next)
            ≡ restate (open_number book) (last_close book.rulings) name
            (row one (status_at from one) cost) (row one (status_at to one) costs)
            (tables (between done))
            → StepsOne step (tables (between done)) one cost costs
            → step name (tables (between done)) ≡ tables (between next)
        by_case cost costs made (inl steps) = steps ∙ sym made
        by_case cost costs made (inr stays) =
            stays.1 ∙ tables-alike naming book sound (between done) (between next) (among done)
            (among next) (λ q held. elim (is q one) as (λ t. is q one ≡ t
            → status_at (between done) q ≡ status_at (between next) q) [
              | true ↦ λ same. subst (λ q. status_at (between done) q ≡ status_at (between next) q)
                  (sym (tells_apart exact_bytes q one same)) (before ∙ stays.0 ∙ sym after)
              | false ↦ λ apart. others q held apart
            ] refl)

  -- so a walk restates all of them
  pub restated_all : (step : List ℕ → Tables → Tables) → Restates step
      → walk step (keys (tables from).records) (tables from) ≡ tables to
  restated_all step restates =
      let all : List (List ℕ) = keys (tables from).records in
      let none : List ℕ → Bool = λ name. false in
      let passed : List ℕ → Bool = λ name. list_any (is name) all || false in
      ap (walk step all) (tables-alike naming book sound from (between none) was.charged (among none)
      (λ q held. sym (is_between none q held)))
      ∙ walk_all naming book sound from was (λ done. tables (between done)) step
      (λ done one there fresh. one_step step restates done one there fresh)
      ∙ tables-alike naming book sound (between passed) to (among passed) becomes.charged
      (λ q held. is_between passed q held
      ∙ ap (λ b. cond (b || false) (status_at to q) (status_at from q))
      (key_there naming book sound from was q held))
