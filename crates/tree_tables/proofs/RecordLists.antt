-- The records that are not charged, as the tree of marks lists them.
use Rattle.std.proofs.Common.{◌≡◌, ◌∙◌, ℕ, ◌==◌, ◌-◌, List, [], ◌∷◌, Bool, true, false, not}
use Rattle.std.proofs.Common.{map, pos, refl, sym, ap, subst, arith, length}
use Rattle.std.specs.Prelude.{filter}
use Rattle.std.specs.Cmp.{nat_cmp_total, tied_itself}
use Rattle.std.specs.FinMap.{entries, entries_sorted}
use Rattle.std.specs.FinMap.Entries.{is_sorted-where_key}
use Rattle.std.specs.List.{AllByRecursion, AllZip, flat_map}
use Rattle.std.specs.List.Sorted.{IsPermutation, IsStrictlySortedBy}
use Rattle.std.specs.Ordering.{nat_cmp, ordering_then}
use Rattle.std.specs.declared.cmp.Ordering.TheVariants.{Less}
use Rattle.std.proofs.lemmas.Bool.Decides.{nat_tests}
use Rattle.std.proofs.lemmas.List.Elements.{All-filter, filter_agree, filter_passes}
use Rattle.std.proofs.lemmas.List.Elements.{recursion_from_All}
use Rattle.std.proofs.lemmas.List.Sorted.{IsPermutation-map}
use Rattle.sqlite_trees.proofs.ListLemmas.{IsPermutation-flat_map, filter-map, map-map}
use Rattle.sqlite_value.specs.Order.{Row, column}
use Rattle.sqlite_value.specs.declared.value.Value.TheVariants.{Blob, Int}
use Rattle.book_model.proofs.SetLemmas.{keys_rise}
use Rattle.table_model.specs.Tables.{RecordTable, Tables}
use Rattle.tree_rows.specs.Indexes.{IsKeyOf, by_both, by_mark}
use Rattle.tree_rows.specs.Runs.{run_of}
use Rattle.tree_rows.proofs.IndexLists.{index_names_all, index_permutes}
use Rattle.tree_rows.proofs.Runs.{run_numbered}
use Rattle.tree_tables.proofs.FoundNames.{Entry, at_name, entries_named, keys_named}
use Rattle.tree_tables.proofs.FoundNames.{named_found, names_of, names_read, some_had}
use Rattle.tree_tables.proofs.Layouts.{mark_layout}
use Rattle.tree_tables.proofs.RecordIndexes.{mark_named}
use Rattle.table_model.specs.DisputesRead.{by_identity}
use Rattle.tree_tables.specs.Answers.{FindsNamed, ListsUncharged}
use Rattle.tree_tables.specs.Answers.{is_uncharged}
use Rattle.tree_tables.specs.Columns.{flag, identity_columns, mark_columns}
use Rattle.tree_tables.specs.Holds.{identity_index, mark_key, marks}
use Rattle.tree_tables.specs.Stored.{stored_entry}
use Rattle.tree_tables.specs.declared.found_names.FoundName.{FoundName}
use Rattle.tree_tables.specs.declared.stored_record.StoredRecord.{StoredRecord}

-- the rows of the two trees that find records
abbrev pub identity_rows : RecordTable → List Row
identity_rows records = map identity_columns (entries (identity_index records))

abbrev pub mark_rows : RecordTable → List Row
mark_rows records = map mark_columns (entries (marks records))

-- rows end in these names
abbrev pub EndIn : List Row → List FoundName → Type 0
EndIn rows names =
    AllZip (λ (one : Row) (found : FoundName). column one (length one - 1) ≡ Blob found.name)
    rows names

-- ---- the records that are not charged

-- a key has the mark of the records that are not charged
abbrev Key : Type 0
Key = ℕ × (List ℕ × List ℕ)

abbrev has_none : Key → Bool
has_none key = key.0 == 0

-- its mark is 0
mark_none : (mark : ℕ) → (mark == 0) ≡ true → mark ≡ 0
mark_none mark none = grind (arith, nat_tests, none)

-- keys of one mark compare as the entries do by identity
by_one_mark : (one other : Entry) → has_none (mark_key one) ≡ true
    → has_none (mark_key other) ≡ true
    → by_mark (mark_key one) (mark_key other) ≡ by_identity one other
by_one_mark one other none other_none =
    (λ i. ordering_then
    (nat_cmp (mark_none (mark_key one).0 none i) (mark_none (mark_key other).0 other_none i))
    (by_identity one other))
    ∙ ap (λ o. ordering_then o (by_identity one other)) (tied_itself nat_cmp_total 0)

-- so the entries of such keys are in the order by identity
below_too : (one : Entry) (es : List Entry) → has_none (mark_key one) ≡ true
    → AllByRecursion (λ q. has_none q ≡ true) (map mark_key es)
    → AllByRecursion (λ q. by_mark (mark_key one) q ≡ Less) (map mark_key es)
    → AllByRecursion (λ other. by_identity one other ≡ Less) es
below_too one [] is marked below = tt
below_too one (other ∷ es) is marked below = (
  sym (by_one_mark one other is marked.0) ∙ below.0,
  below_too one es is marked.1 below.1,
)

entries_rise : (es : List Entry) → AllByRecursion (λ q. has_none q ≡ true) (map mark_key es)
    → IsStrictlySortedBy by_mark (map mark_key es) → IsStrictlySortedBy by_identity es
unfolding IsStrictlySortedBy
entries_rise [] marked rises = tt
entries_rise (e ∷ es) marked rises =
    (below_too e es marked.0 marked.1 rises.0, entries_rise es marked.1 rises.1)

-- the key of a record that is not charged has the mark 0
mark_is : (e : Entry) → has_none (mark_key e) ≡ is_uncharged e
mark_is e = by e.1.charged
  where
    by : (charged : Bool) → (flag charged == 0) ≡ not charged
    by true = refl
    by false = refl

module _ (records : RecordTable) where
  -- the name in a key
  abbrev name_in : Key → List ℕ
  name_in key = key.1.1

  -- the entries of the tree of marks that are listed, and their keys
  abbrev listed : List (Key × Unit {0})
  listed = filter (λ e. has_none e.0) (entries (marks records))

  abbrev keys : List Key
  keys = filter has_none (map (λ (e : Key × Unit {0}). e.0) (entries (marks records)))

  listed_keys : map (λ e. e.0) listed ≡ keys
  listed_keys = sym (filter-map has_none (λ (e : Key × Unit {0}). e.0) (entries (marks records)))

  -- their names
  listed_names : map (λ e. e.0.1.1) listed ≡ map name_in keys
  listed_names = sym (map-map name_in (λ (e : Key × Unit {0}). e.0) listed)
      ∙ ap (map name_in) listed_keys

  -- each of the keys is that of a record
  keys_each : AllByRecursion (IsKeyOf mark_key name_in records) keys
  keys_each =
      let Is : Key → Type 0 = IsKeyOf mark_key name_in records in
      let all = map (λ (e : Key × Unit {0}). e.0) (entries (marks records)) in
      recursion_from_All Is keys (All-filter has_none Is all (index_names_all mark_named records))

  -- the keys are those of the records that are found by their names
  found_keys : map mark_key (flat_map (at_name records) (map name_in keys)) ≡ keys
  found_keys = keys_named mark_key name_in records keys keys_each

  -- which are in the order of the keys
  found_rise : IsStrictlySortedBy by_identity (flat_map (at_name records) (map name_in keys))
  found_rise =
      let found = flat_map (at_name records) (map name_in keys) in
      let all = entries (marks records) in
      let keys_all = map (λ (e : Key × Unit {0}). e.0) all in
      entries_rise found
      (subst (AllByRecursion (λ q. has_none q ≡ true)) (sym found_keys)
      (recursion_from_All (λ q. has_none q ≡ true) keys (filter_passes has_none keys_all)))
      (subst (IsStrictlySortedBy by_mark) (sym found_keys)
      (subst (IsStrictlySortedBy by_mark) listed_keys
      (keys_rise by_mark listed
      (is_sorted-where_key by_mark has_none all (entries_sorted (marks records))))))

  -- and are those that are not charged
  found_same : IsPermutation (flat_map (at_name records) (map name_in keys))
      (filter is_uncharged (entries records))
  found_same =
      let test : Entry → Bool = λ e. has_none (mark_key e) in
      let some = filter test (entries records) in
      subst (IsPermutation (flat_map (at_name records) (map name_in keys)))
      (ap (flat_map (at_name records)) (map-map name_in mark_key some)
      ∙ entries_named records some (some_had records test)
      ∙ filter_agree test is_uncharged mark_is (entries records))
      (IsPermutation-flat_map (at_name records) (map name_in keys)
      (map name_in (map mark_key some))
      (IsPermutation-map name_in keys (map mark_key some)
      (index_permutes mark_named has_none records)))

-- the run of the mark 0 is that of the records that are not charged
pub marks_run : (records : RecordTable) (part : Row) → part ≡ Int (pos 0) ∷ []
    → run_of part (mark_rows records) ≡ map mark_columns (listed records)
marks_run records part part_is =
    ap (λ key. run_of key (mark_rows records)) part_is
    ∙ run_numbered by_both mark_layout (λ pair. Blob pair.0 ∷ Blob pair.1 ∷ [])
    (λ n more. refl) 0 (marks records)

-- The rows of the mark 0 name the records that are not charged, in the order of identity and name.
pub uncharged_found : (tables : Tables) (part : Row) (names : List FoundName)
    (found : List StoredRecord) → part ≡ Int (pos 0) ∷ []
    → EndIn (run_of part (mark_rows tables.records)) names → FindsNamed names tables found
    → ListsUncharged tables found
uncharged_found tables part names found part_is ends all =
    let records = tables.records in
    let run = marks_run records part part_is in
    let read : names_of names ≡ map (λ e. e.0.1.1) (listed records) =
    names_read mark_columns (λ e. e.0.1.1) (λ e. refl) (listed records) names
    (subst (λ some. EndIn some names) run ends) in
    let are : map stored_entry found
    ≡ flat_map (at_name records) (map (name_in records) (keys records)) =
    named_found names tables found all
    ∙ ap (flat_map (at_name records)) (read ∙ listed_names records) in
    record {
      same = subst (λ list. IsPermutation list (filter is_uncharged (entries records))) (sym are)
          (found_same records);
      sorted = subst (IsStrictlySortedBy by_identity) (sym are) (found_rise records);
    }
