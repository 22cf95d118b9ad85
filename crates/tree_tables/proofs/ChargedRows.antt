-- The charged records of an identity, as the tree of marks has them.
use Rattle.std.proofs.Common.{◌≡◌, ◌∙◌, ℕ, ◌&&◌, List, [], ◌∷◌, Bool, true, false}
use Rattle.std.proofs.Common.{Some, None, Result, Ok, Err, map, pos}
use Rattle.std.proofs.Common.{refl, sym, ap, ap₂, subst}
use Rattle.std.specs.Prelude.{IfOk, filter, slice_get}
use Rattle.std.specs.Cmp.{IsTotalOrder, nat_cmp_total}
use Rattle.std.specs.Cmp.Lexicographic.{nat_list_cmp_total}
use Rattle.std.specs.FinMap.{entries, get, nat_cmp-IsAntisymmetric}
use Rattle.std.specs.List.{AllByRecursion}
use Rattle.std.specs.Option.{option_map}
use Rattle.std.specs.Ordering.{eq_by_cmp, is_eq, nat_cmp, ordering_then}
use Rattle.std.specs.declared.cmp.Ordering.{Ordering}
use Rattle.std.proofs.lemmas.List.Elements.{filter_agree}
use Rattle.std.proofs.lemmas.Map.Views.{tells_apart}
use Rattle.sqlite_trees.proofs.ListLemmas.{all-filter, map-map}
use Rattle.sqlite_trees.specs.View.{IsClean}
use Rattle.sqlite_trees.specs.declared.error.StoreError.{StoreError}
use Rattle.sqlite_trees.specs.declared.store.Store.{Ghosts}
use Rattle.sqlite_value.proofs.OrderLemmas.{then-Equal, value_cmp-Blob, value_cmp-Int}
use Rattle.sqlite_value.specs.Order.{Row, column, row_cmp}
use Rattle.sqlite_value.specs.declared.value.Value.TheVariants.{Blob, Int}
use Rattle.book_model.specs.Words.{same_bytes}
use Rattle.book_model.proofs.ListLemmas.{filter-filter}
use Rattle.book_model.proofs.SetLemmas.{same_bytes-by_cmp}
use Rattle.table_model.specs.Tables.{RecordRow, RecordTable, Tables}
use Rattle.table_model.specs.Views.{rows_with}
use Rattle.tree_rows.specs.Indexes.{by_bytes, by_mark, by_parts, indexed_by}
use Rattle.tree_rows.specs.Rows.{Finds, IsFirst, IsUnchanged}
use Rattle.tree_rows.specs.Runs.{run_of}
use Rattle.tree_rows.proofs.IndexLists.{index_in_order}
use Rattle.tree_rows.proofs.IndexOrders.{by_bytes_exact, parts_exact, parts_total}
use Rattle.tree_rows.proofs.Maps.{then_assoc}
use Rattle.tree_rows.proofs.Runs.{finds_run, run_by_front}
use Rattle.tree_tables.specs.Answers.{FindsCharged, FindsRecord, HasCharged, charged_with, is_charged}
use Rattle.tree_tables.specs.Columns.{charged_part, flag, mark_columns}
use Rattle.tree_tables.specs.Holds.{mark_key, marks}
use Rattle.tree_tables.specs.States.{state}
use Rattle.tree_tables.specs.Steps.{Looks}
use Rattle.tree_tables.specs.declared.stored_record.StoredRecord.{StoredRecord}
use Rattle.tree_tables.proofs.FoundNames.{Entry, some_had}
use Rattle.tree_tables.proofs.Layouts.{mark_layout, numbers}
use Rattle.tree_rows.proofs.Calls.{Quiet}
use Rattle.tree_tables.proofs.Looking.{looks_found}
use Rattle.tree_tables.proofs.RecordIndexes.{mark_named}
use Rattle.tree_tables.proofs.RecordLists.{mark_rows}
use Rattle.tree_tables.proofs.RowsRead.{any_is, first_has, made_has, same_blob}

-- a key of the tree of marks, and its prefix: the mark and the identity
abbrev pub Key : Type 0
Key = ℕ × (List ℕ × List ℕ)

abbrev pub Front : Type 0
Front = ℕ × List ℕ

abbrev pub front_of : Key → Front
front_of key = (key.0, key.1.0)

abbrev pub front_columns : Front → Row
front_columns front = Int (pos front.0) ∷ Blob front.1 ∷ []

-- prefixes are ordered by the mark, then by the identity
abbrev pub by_front : Front → Front → Ordering
by_front = by_parts nat_cmp by_bytes

by_front_total : IsTotalOrder by_front
by_front_total = parts_total nat_cmp_total nat_list_cmp_total

-- keys compare by their prefixes, then by the names
fronts_first : (k l : Key) → by_mark k l
    ≡ ordering_then (by_front (front_of k) (front_of l)) (by_bytes k.1.1 l.1.1)
fronts_first k l = then_assoc (nat_cmp k.0 l.0) (by_bytes k.1.0 l.1.0) (by_bytes k.1.1 l.1.1)

-- and prefixes as their columns do
pub fronts_compare : (a b : Front) → row_cmp (front_columns a) (front_columns b) ≡ by_front a b
fronts_compare a b =
    ap₂ ordering_then (value_cmp-Int (pos a.0) (pos b.0) ∙ numbers a.0 b.0)
    (then-Equal _ ∙ value_cmp-Blob a.1 b.1)

-- Records with one prefix are in the tree of marks in the order of their names.
module _ (given : Front) where
  -- the key has the prefix
  abbrev has_front : Key → Bool
  has_front key = is_eq (by_front (front_of key) given)

  only_given : (key : Key) → has_front key ≡ true → front_of key ≡ given
  only_given key same =
      tells_apart (parts_exact nat_cmp-IsAntisymmetric by_bytes_exact) (front_of key) given same

  -- the keys of those entries that have the prefix
  abbrev with_front : List Entry → List (Key × Unit {0})
  with_front es = map (indexed_by mark_key) (filter (λ e. has_front (mark_key e)) es)

  -- the rows that begin with the prefix are those of the entries that have it
  front_run : (records : RecordTable) → run_of (front_columns given) (mark_rows records)
      ≡ map mark_columns (with_front (entries records))
  front_run records =
      run_by_front by_front_total mark_layout front_of front_columns (λ k. Blob k.1.1 ∷ [])
      (λ k l. by_bytes k.1.1 l.1.1) fronts_first fronts_compare (λ a b. refl) (λ k. refl) given
      (marks records)
      ∙ ap (map mark_columns) (index_in_order mark_named by_front_total front_of
      (λ e f. fronts_first (mark_key e) (mark_key f)) given has_front only_given records)

module _ (records : RecordTable) (identity : List ℕ) where
  -- a key has the mark of charged records, and the identity
  front_is : (e : Entry) → has_front (flag true, identity) (mark_key e)
      ≡ (is_charged e && same_bytes e.1.identity identity)
  front_is e =
      by e.1.charged
      ∙ ap (λ (same : List ℕ → List ℕ → Bool). is_charged e && same e.1.identity identity)
      (sym same_bytes-by_cmp)
    where
      by : (charged : Bool)
          → is_eq (ordering_then (nat_cmp (flag charged) (flag true))
          (by_bytes e.1.identity identity))
          ≡ (charged && eq_by_cmp by_bytes e.1.identity identity)
      by true = refl
      by false = refl

  -- the row of the mark of a record
  abbrev mark_row : Entry → Row
  mark_row e = mark_columns (indexed_by mark_key e)

  -- the marks of charged records that have the identity are those of the records that do
  charged_run : run_of (charged_part identity) (mark_rows records)
      ≡ map mark_row (charged_with identity records)
  charged_run =
      front_run (flag true, identity) records
      ∙ map-map mark_columns (indexed_by mark_key)
      (filter (λ e. has_front (flag true, identity) (mark_key e)) (entries records))
      ∙ ap (map mark_row)
      (filter_agree (λ e. has_front (flag true, identity) (mark_key e))
      (λ e. is_charged e && same_bytes e.1.identity identity) front_is (entries records)
      ∙ sym (filter-filter is_charged (λ e. same_bytes e.1.identity identity) (entries records)))

-- what the first mark of a charged record that has the identity says of the tables
pub record NamesCharged (identity : List ℕ) (tables : Tables) (name : List ℕ) : Type 0 where
  pub row : RecordRow
  pub more : List Entry
  pub first : charged_with identity tables.records ≡ (name, row) ∷ more
  pub there : get tables.records name ≡ Some row

module _ (tables : Tables) (identity : List ℕ) (row : Row) {rows : List Row}
    (held : rows ≡ mark_rows tables.records) where
  -- the marks that are found are those of the records
  found_of : (there : Bool) → IsFirst (run_of (charged_part identity) rows) row there
      → IsFirst (map (mark_row tables.records identity) (charged_with identity tables.records))
      row there
  found_of there begins =
      subst (λ run. IsFirst run row there)
      (ap (run_of (charged_part identity)) held ∙ charged_run tables.records identity) begins

  -- of these entries one is there, or none
  abbrev OneOf : List Entry → Bool → Type 0
  OneOf es true = (e : Entry) × (more : List Entry) × (es ≡ e ∷ more)
      × (row ≡ mark_row tables.records identity e)
  OneOf es false = es ≡ []

  one_of : (es : List Entry) (there : Bool)
      → IsFirst (map (mark_row tables.records identity) es) row there → OneOf es there
  one_of [] true begins = absurd (let e = begins.1 in cc)
  one_of [] false begins = refl
  one_of (e ∷ es) true begins = (e, es, refl, (let same = begins.1 in cc))
  one_of (e ∷ es) false begins = absurd (let e = begins in cc)

  -- whether a record of the identity is charged
  pub has_charged_is : (there : Bool) → IsFirst (run_of (charged_part identity) rows) row there
      → HasCharged identity tables there
  has_charged_is there begins =
      let all = charged_with identity tables.records in
      first_has (map (mark_row tables.records identity) all) row there (found_of there begins)
      ∙ made_has (mark_row tables.records identity) all
      ∙ sym (any_is is_charged (rows_with identity tables.records))

  -- where no mark is found, no record of the identity is charged
  pub charged_none : IsFirst (run_of (charged_part identity) rows) row false
      → FindsCharged identity tables None
  charged_none begins =
      ap (λ es. slice_get es 0)
      (sym (one_of (charged_with identity tables.records) false (found_of false begins)))

  -- a charged record is there
  charged_had : AllByRecursion (λ (e : Entry). get tables.records e.0 ≡ Some e.1)
      (charged_with identity tables.records)
  charged_had =
      let same : Entry → Bool = λ e. same_bytes e.1.identity identity in
      all-filter (λ (e : Entry). get tables.records e.0 ≡ Some e.1) is_charged
      (filter same (entries tables.records)) (some_had tables.records same)

  -- the mark that is found ends in the name of the first
  pub charged_names : IsFirst (run_of (charged_part identity) rows) row true
      → (e : Entry) × NamesCharged identity tables e.0 × (column row 2 ≡ Blob e.0)
  charged_names begins =
      let one = one_of (charged_with identity tables.records) true (found_of true begins) in
      let had : AllByRecursion (λ (e : Entry). get tables.records e.0 ≡ Some e.1)
      (one.0 ∷ one.1) =
      subst (AllByRecursion (λ (e : Entry). get tables.records e.0 ≡ Some e.1)) one.2 charged_had
      in (
        one.0,
        record { row = one.0.1; more = one.1; first = one.2; there = had.0 },
        ap (λ (r : Row). column r 2) one.3,
      )

  -- what is read of it is the name
  pub charged_named : (name : List ℕ) → IsFirst (run_of (charged_part identity) rows) row true
      → column row 2 ≡ Blob name → NamesCharged identity tables name
  charged_named name begins says =
      let it = charged_names begins in
      subst (NamesCharged identity tables) (same_blob it.0.0 name (sym it.2 ∙ says)) it.1

module _ (tables : Tables) (identity name : List ℕ) (names : NamesCharged identity tables name)
  where
    -- the record of the name is the first of the charged ones
    pub charged_is : (stored : StoredRecord) → FindsRecord name tables (Some stored)
        → FindsCharged identity tables (Some stored)
    charged_is stored found =
        found ∙ ap (option_map (λ (row : RecordRow). (name, row))) names.there
        ∙ ap (λ es. slice_get es 0) (sym names.first)

-- what a look-up of these columns shows, if it shows something
pub mark_found : (Clean : Type 0) (key part row : Row) (rows : List Row)
    (result : Result Bool StoreError) → key ≡ part
    → IfOk result (λ hit. Clean → Finds key rows row hit)
    → IfOk result (λ hit. Clean → IsFirst (run_of part rows) row hit)
mark_found Clean key part row rows (Ok hit) is found = λ clean.
    subst (λ some. IsFirst (run_of some rows) row hit) is
    (finds_run key row rows hit (found clean))
mark_found Clean key part row rows (Err error) is found = tt

-- a look at the marks that has found one and read its name
pub name_looked : {S : Type 0} (ghosts : Ghosts S) (old new : S) (identity name : List ℕ)
    (row : Row) → Quiet ghosts old new
    → (IsClean (ghosts.view new) → IsUnchanged (ghosts.view old) (ghosts.view new))
    → (IsClean (ghosts.view new)
    → IsFirst (run_of (charged_part identity) ((ghosts.view old).trees 7)) row true)
    → column row 2 ≡ Blob name
    → Looks (Ok name) (state ghosts old) (state ghosts new) (NamesCharged identity)
name_looked ghosts old new identity name row call same found says =
    looks_found ghosts call same (λ clean tables holds.
    charged_named tables identity row holds.marks name (found clean) says)
