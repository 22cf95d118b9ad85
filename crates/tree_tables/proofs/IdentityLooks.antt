-- The next identity of a record that is not charged, as the tree of marks shows it, and all records
-- of an identity, as the tree of identities lists them.
use Rattle.std.proofs.Common.{◌≡◌, ◌∙◌, ℕ, List, [], ◌∷◌, Bool, true, false, true≢false, not}
use Rattle.std.proofs.Common.{Some, None, length, map, pos, take, refl, sym, ap, subst, arith}
use Rattle.std.specs.Prelude.{Option, Vec, filter}
use Rattle.std.specs.FinMap.{entries, get, get-entries}
use Rattle.std.specs.Global.{Global}
use Rattle.std.specs.List.{AllByRecursion, flat_map}
use Rattle.std.specs.Ordering.{eq_by_cmp, is_lt, nat_cmp, ordering_then}
use Rattle.std.specs.declared.cmp.Ordering.{Ordering}
use Rattle.std.specs.declared.cmp.Ordering.TheVariants.{Less, Equal, Greater}
use Rattle.std.proofs.lemmas.List.{length-map, take-map}
use Rattle.std.proofs.lemmas.Map.Views.{tells_apart}
use Rattle.sqlite_trees.proofs.ListLemmas.{map-map}
use Rattle.sqlite_trees.specs.Tree.{from_key}
use Rattle.sqlite_value.specs.Keys.{plain, prefix_cmp}
use Rattle.sqlite_value.specs.Order.{Row, column}
use Rattle.sqlite_value.specs.declared.value.Value.TheVariants.{Blob, Int}
use Rattle.book_model.specs.Words.{same_bytes}
use Rattle.book_model.proofs.RecordSets.{not_true}
use Rattle.book_model.proofs.SetLemmas.{same_bytes-by_cmp}
use Rattle.table_model.specs.Tables.{RecordRow, RecordTable, Tables}
use Rattle.table_model.specs.Views.{rows_with}
use Rattle.tree_rows.specs.Indexes.{IsKeyOf, by_both, by_bytes, by_mark, indexed_by}
use Rattle.tree_rows.specs.Layouts.{row_of, rows_of}
use Rattle.tree_rows.specs.Rows.{IsFirst}
use Rattle.tree_rows.specs.Runs.{run_of}
use Rattle.tree_rows.proofs.FromPart.{FindsFrom, finds_from}
use Rattle.tree_rows.proofs.IndexOrders.{by_bytes_exact}
use Rattle.tree_rows.proofs.Indexes.{index_has, index_names}
use Rattle.tree_rows.proofs.Maps.{prefix_of}
use Rattle.tree_rows.proofs.PartIndexes.{part_in_order}
use Rattle.tree_rows.proofs.Runs.{run_named}
use Rattle.tree_tables.specs.Answers.{FindsNamed, FindsUncharged, IsNextUncharged, IsUnchargedFrom}
use Rattle.tree_tables.specs.Answers.{ListsSharing, NamesSharing}
use Rattle.tree_tables.specs.Columns.{flag, identity_columns, uncharged_part}
use Rattle.tree_tables.specs.Holds.{identity_index, identity_key, mark_key, marks}
use Rattle.tree_tables.specs.Stored.{SaysUncharged}
use Rattle.tree_tables.specs.declared.found_names.FoundName.{FoundName}
use Rattle.tree_tables.specs.declared.stored_record.StoredRecord.{StoredRecord}
use Rattle.tree_tables.proofs.ChargedRows.{Key, by_front, front_of, fronts_compare}
use Rattle.tree_tables.proofs.FoundNames.{Entry, at_name, entries_named, named_found}
use Rattle.tree_tables.proofs.FoundNames.{names_of, names_read, some_had}
use Rattle.tree_tables.proofs.Layouts.{identity_layout, mark_layout}
use Rattle.tree_tables.proofs.RecordIndexes.{mark_named}
use Rattle.tree_tables.proofs.RecordLists.{EndIn, identity_rows, mark_rows}
use Rattle.tree_tables.proofs.RowsRead.{same_blob, same_count}

-- a mark of 0 is that of what is not charged
pub unflagged : (charged : Bool) → flag charged ≡ flag false → charged ≡ false
unflagged true is = absurd (omega (arith, is))
unflagged false is = refl

-- what is not below by two answers in turn is not below by the first
not_below : (first next : Ordering) → is_lt (ordering_then first next) ≡ false
    → not (is_lt first) ≡ true
not_below Less next high = absurd (true≢false high)
not_below Equal next high = refl
not_below Greater next high = refl

-- ---- the next identity

module _ (from : List ℕ) where
  -- how a key compares with the mark 0 and the bytes
  abbrev rank : Key → Ordering
  rank key = by_front (front_of key) (flag false, from)

  -- its row compares so
  pub at_part : (e : Key × Unit {0})
      → prefix_cmp plain (row_of mark_layout e) (uncharged_part from) ≡ rank e.0
  at_part e =
      prefix_of (Int (pos e.0.0) ∷ Blob e.0.1.0 ∷ []) (Blob e.0.1.1 ∷ []) (uncharged_part from) refl
      ∙ fronts_compare (front_of e.0) (flag false, from)

  -- what the first row shows that is not below the columns
  abbrev pub Shows : RecordTable → Row → Bool → Type 0
  Shows records = FindsFrom mark_layout (uncharged_part from) rank at_part (marks records)

  -- a look-up of the columns
  pub shows : (records : RecordTable) (rows : List Row) (key row : Row) (there : Bool)
      → rows ≡ mark_rows records → key ≡ uncharged_part from
      → IsFirst (from_key plain key rows) row there → Shows records row there
  shows records rows key row there held key_is begins =
      finds_from mark_layout (uncharged_part from) rank at_part (marks records) row there
      (subst (λ one. IsFirst (from_key plain one (rows_of mark_layout (marks records))) row there)
      key_is (subst (λ some. IsFirst (from_key plain key some) row there) held begins))

  -- the key of a record that is not charged is not below them, where its identity is not
  rank_of : (e : Entry) → e.1.charged ≡ false
      → is_lt (rank (mark_key e)) ≡ is_lt (by_bytes e.1.identity from)
  rank_of e uncharged =
      ap (λ charged. is_lt (by_front (flag charged, e.1.identity) (flag false, from))) uncharged

  module _ (tables : Tables) (row : Row) where
    abbrev records : RecordTable
    records = tables.records

    -- its key is in the tree, and not below
    key_there : (e : Entry) → IsUnchargedFrom from tables e
        → get (marks records) (mark_key e) ≡ Some tt
    key_there e is = index_has mark_named records e.0 e.1 is.there

    key_high : (e : Entry) → IsUnchargedFrom from tables e → is_lt (rank (mark_key e)) ≡ false
    key_high e is =
        rank_of e is.uncharged ∙ not_true (is_lt (by_bytes e.1.identity from)) is.reached

    -- where no row is found, there is none
    pub uncharged_none : Shows records row false → FindsUncharged from tables None
    uncharged_none missing = λ e is.
        true≢false (sym (missing (mark_key e) tt (key_there e is)) ∙ key_high e is)

    module _ (found : Shows records row true) where
      -- the key that is found
      abbrev key : Key
      key = found.0

      -- is that of a record
      its_record : IsKeyOf mark_key (λ (q : Key). q.1.1) records key
      its_record =
          index_names mark_named records key (sym (get-entries (marks records) key) ∙ found.2)

      -- what the row says of the mark
      same_mark : (mark : ℕ) → column row 0 ≡ Int (pos mark) → key.0 ≡ mark
      same_mark mark says = same_count key.0 mark (sym (ap (λ r. column r 0) found.3) ∙ says)

      same_identity : (bytes : List ℕ) → column row 1 ≡ Blob bytes → key.1.0 ≡ bytes
      same_identity bytes says = same_blob key.1.0 bytes (sym (ap (λ r. column r 1) found.3) ∙ says)

      -- the keys of such records are not below it
      key_least : (e : Entry) → IsUnchargedFrom from tables e
          → is_lt (by_mark (mark_key e) key) ≡ false
      key_least e is = found.5 (mark_key e) tt (key_there e is) (key_high e is)

      -- there is none where the first row is that of a charged record
      past_all : column row 0 ≡ Int (pos (flag true)) → FindsUncharged from tables None
      past_all says = λ e is.
          true≢false (sym (λ i. is_lt (ordering_then
          (nat_cmp (flag (is.uncharged i)) (same_mark (flag true) says i))
          (by_both (mark_key e).1 key.1)))
          ∙ key_least e is)

      -- and else it is the next
      is_next : (identity : List ℕ) → column row 0 ≡ Int (pos (flag false))
          → column row 1 ≡ Blob identity → IsNextUncharged from tables identity
      is_next identity says_mark says =
          let mark = same_mark (flag false) says_mark in
          let own = same_identity identity says in
          let its : Entry = (key.1.1, its_record.0) in
          let uncharged : its.1.charged ≡ false =
          unflagged its.1.charged (ap (λ (k : Key). k.0) its_record.2 ∙ mark) in
          record {
            row = its;
            uncharged = record {
              there = its_record.1;
              uncharged = uncharged;
              reached = ap not (sym (rank_of its uncharged)
                  ∙ ap (λ (k : Key). is_lt (rank k)) its_record.2 ∙ found.4);
            };
            own = ap (λ (k : Key). k.1.0) its_record.2 ∙ own;
            least = λ e is.
                not_below (by_bytes e.1.identity identity) (by_bytes e.0 key.1.1)
                (sym (λ i. is_lt (ordering_then (nat_cmp (flag (is.uncharged i)) (mark i))
                (ordering_then (by_bytes e.1.identity (own i)) (by_bytes e.0 key.1.1))))
                ∙ key_least e is);
          }

      -- so what is read of the row is what was looked for
      pub uncharged_read : (read : Option (Vec ℕ Global)) → SaysUncharged row read
          → FindsUncharged from tables read
      uncharged_read None says = past_all says
      uncharged_read (Some identity) says = is_next identity.items says.0 says.1

-- ---- the records of an identity

-- the names of the first two are as many as these
pub sharing_counted : (identity : List ℕ) (tables : Tables) (names : List FoundName)
    → NamesSharing identity tables names
    → length names ≡ length (take 2 (rows_with identity tables.records))
sharing_counted identity tables names named =
    sym (length-map names (λ (one : FoundName). one.name)) ∙ ap length named
    ∙ length-map (take 2 (rows_with identity tables.records)) (λ (e : Entry). e.0)

module _ (tables : Tables) (identity : List ℕ) (part : Row) (part_is : part ≡ Blob identity ∷ []) where
  -- the records that have it
  abbrev sharing : List Entry
  sharing = rows_with identity tables.records

  -- the row by which one is found
  abbrev found_by : Entry → Row
  found_by e = identity_columns (indexed_by identity_key e)

  -- are found by the rows of the run
  sharing_run : run_of part (identity_rows tables.records) ≡ map found_by sharing
  sharing_run =
      ap (λ key. run_of key (identity_rows tables.records)) part_is
      ∙ run_named by_bytes identity_layout (λ name. Blob name ∷ []) (λ identity name. refl) identity
      (identity_index tables.records)
      ∙ ap (map identity_columns) (part_in_order (λ (row : RecordRow). row.identity) identity
      (λ x. eq_by_cmp by_bytes x identity) only tables.records
      ∙ ap (λ (same : List ℕ → List ℕ → Bool). map (indexed_by identity_key)
      (filter (λ (e : Entry). same e.1.identity identity) (entries tables.records)))
      (sym same_bytes-by_cmp))
      ∙ map-map identity_columns (indexed_by identity_key) sharing
    where
      only : (x : List ℕ) → eq_by_cmp by_bytes x identity ≡ true → x ≡ identity
      only x same = tells_apart by_bytes_exact x identity same

  -- and are in the tables
  abbrev Had : Entry → Type 0
  Had e = get tables.records e.0 ≡ Some e.1

  sharing_had : AllByRecursion Had sharing
  sharing_had = some_had tables.records (λ e. same_bytes e.1.identity identity)

  -- the names that are read are theirs
  sharing_names : (names : List FoundName)
      → EndIn (run_of part (identity_rows tables.records)) names
      → names_of names ≡ map (λ (e : Entry). e.0) sharing
  sharing_names names ends =
      names_read found_by (λ e. e.0) (λ e. refl) sharing names
      (subst (λ some. EndIn some names) sharing_run ends)

  -- so the records of the names are these
  pub sharing_listed : (names : List FoundName) (found : List StoredRecord)
      → EndIn (run_of part (identity_rows tables.records)) names → FindsNamed names tables found
      → ListsSharing identity tables found
  sharing_listed names found ends all =
      named_found names tables found all
      ∙ ap (flat_map (at_name tables.records)) (sharing_names names ends)
      ∙ entries_named tables.records sharing sharing_had

  -- the names of the first two are read
  pub two_names : (names : List FoundName)
      → EndIn (take 2 (run_of part (identity_rows tables.records))) names
      → names_of names ≡ map (λ (e : Entry). e.0) (take 2 sharing)
  two_names names ends =
      names_read found_by (λ e. e.0) (λ e. refl) (take 2 sharing) names
      (subst (λ some. EndIn some names) (ap (take 2) sharing_run ∙ take-map found_by 2 sharing) ends)
