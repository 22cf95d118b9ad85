-- Rows of records that are changed one at a time, in a walk by name, while the two trees that find
-- records stay as they are.
use Rattle.std.proofs.Common.{◌≡◌, ℕ, ℤ, List, [], ◌∷◌, map, Bool, true, false, cond, Option}
use Rattle.std.proofs.Common.{Some, None, refl, sym, ap, ap₂, subst, ◌∙◌}
use Rattle.std.specs.Prelude.{◌==◌, int_lt}
use Rattle.std.specs.FinMap.{FinMap, entries, get, insert}
use Rattle.std.specs.Option.{option_map}
use Rattle.std.specs.declared.cmp.Ordering.{Ordering}
use Rattle.std.proofs.lemmas.Cmp.{nat_list_cmp_total}
use Rattle.std.proofs.lemmas.Map.Lookups.{exact_bytes}
use Rattle.sqlite_trees.specs.Tree.{Trees, from_key}
use Rattle.sqlite_trees.specs.View.{View}
use Rattle.sqlite_value.specs.Keys.{plain}
use Rattle.sqlite_value.specs.Order.{Row, column}
use Rattle.table_model.specs.RowChanges.{post_by}
use Rattle.table_model.specs.Steps.{post_rows}
use Rattle.table_model.specs.Tables.{CameTable, RecordRow, RecordTable, Tables}
use Rattle.tree_rows.specs.Changes.{above, updated, FindsAbove}
use Rattle.tree_rows.specs.Indexes.{IsIndexKey, index_of}
use Rattle.tree_rows.specs.Layouts.{rows_of}
use Rattle.tree_rows.specs.Rows.{ChangesRow, IsFirst, IsUnchanged, rows_changed}
use Rattle.tree_rows.proofs.Indexes.{index_alike}
use Rattle.tree_rows.proofs.Passing.{first_there, walk_start, walk_step}
use Rattle.tree_rows.proofs.Runs.{from_no_part}
use Rattle.tree_rows.proofs.Updating.{updated_step, done_step, done_start, done_kept, done_all}
use Rattle.tree_rows.proofs.Updating.{get_updated}
use Rattle.tree_tables.proofs.CountedRows.{details_stay}
use Rattle.tree_tables.proofs.Holding.{SameBut, has_rows, have_but, holds_rows}
use Rattle.tree_tables.proofs.Layouts.{record_layout}
use Rattle.tree_tables.proofs.Looking.{only_looks, rewrites_after_look}
use Rattle.tree_tables.proofs.RecordIndexes.{identity_named, mark_named, row_changed}
use Rattle.tree_tables.specs.Columns.{detail_columns, record_columns, identity_columns}
use Rattle.tree_tables.specs.Columns.{mark_columns}
use Rattle.table_model.specs.DetailsRead.{detail_shown}
use Rattle.tree_tables.specs.Holds.{Holds, detail_index, identity_key, identity_index}
use Rattle.tree_tables.specs.Holds.{mark_key, marks}
use Rattle.tree_tables.specs.Walks.{HoldsFoundBy, IsRenewing, RenewsNext, RenewsRow}
use Rattle.tree_tables.specs.Walks.{last_name_key, renewed, rows_past, with_rows_of}

-- Trees that hold tables find their records by what these say,
pub found_by_own : {trees : Trees} {tables : Tables} → Holds trees tables
    → HoldsFoundBy trees tables tables.records
found_by_own holds = assumption

-- and trees hold tables where they find their records by others that have the same keys, and that
-- details show alike.
pub held_by_same : {trees : Trees} {tables : Tables} {keyed : RecordTable}
    → HoldsFoundBy trees tables keyed → identity_index keyed ≡ identity_index tables.records
    → marks keyed ≡ marks tables.records
    → detail_index tables.counted keyed ≡ detail_index tables.counted tables.records
    → Holds trees tables
held_by_same {trees} {tables} found same_identities same_marks same_details =
    let identities : trees 6 ≡ map identity_columns (entries (identity_index tables.records)) =
    found.rest.identity_index
    ∙ ap (λ places. map identity_columns (entries places)) same_identities in
    let kept : trees 7 ≡ map mark_columns (entries (marks tables.records)) =
    found.rest.marks ∙ ap (λ places. map mark_columns (entries places)) same_marks in
    let shown : trees 10 ≡ map detail_columns (entries (detail_index tables.counted tables.records)) =
    found.rest.details ∙ ap (λ places. map detail_columns (entries places)) same_details in
    assumption (identities, kept, shown)

-- trees that are the same but for one still are, where the records' own has other rows
pub same_beside : {old new : Trees} (came : CameTable) (keyed : RecordTable) (tree : ℕ)
    → SameBut old new tree
    → SameBut (with_rows_of came keyed old) (with_rows_of came keyed new) tree
same_beside came keyed tree same other apart =
    ap (cond (other == 3) (map (record_columns came) (entries keyed))) (same other apart)

-- other rows of the same records
pub found_rows : {old new : Trees} {tables : Tables} {keyed : RecordTable} (records : RecordTable)
    → HoldsFoundBy old tables keyed → SameBut old new 3
    → new 3 ≡ map (record_columns tables.came) (entries records)
    → HoldsFoundBy new (record tables { records = records }) keyed
found_rows {old} {tables = tables} {keyed = keyed} records found same now = record {
  records = now;
  rest = holds_rows found.rest.placed (have_but
      {old = with_rows_of tables.came keyed old} 3
      (same_beside tables.came keyed 3 same) refl (has_rows found.rest) refl);
}

-- the first row after a walk's key is that of the first entry that is still to come
pub finds_next : (came : CameTable) (last : Option (List ℕ)) (m : RecordTable) (key : Row)
    (rows : List Row) (row : Row) (there : Bool) → key ≡ last_name_key last
    → rows ≡ rows_of (record_layout came) m
    → IsFirst (rows_past key rows) row there → FindsAbove (record_layout came) last m row there
finds_next came None m key rows row there place held begins =
    walk_start (record_layout came) m row there
    (subst (λ some. IsFirst some row there) (ap₂ rows_past place held) begins)
finds_next came (Some name) m key rows row there place held begins =
    walk_step (record_layout came) m name row there
    (subst (λ some. IsFirst some row there) (ap₂ rows_past place held) begins)

-- a look-up of the key with no columns begins where a walk does
pub from_no_key : (key : Row) (rows : List Row) → key ≡ []
    → from_key plain key rows ≡ rows_past key rows
from_no_key key rows empty =
    ap (λ one. from_key plain one rows) empty ∙ from_no_part rows
    ∙ ap (λ one. rows_past one rows) (sym empty)

-- before its first step a walk has changed nothing
pub renewing_starts : (change : RecordRow → RecordRow) (trees : Trees) (tables : Tables) (key : Row)
    → key ≡ [] → Holds trees tables → IsRenewing change tables trees key
renewing_starts change trees tables key empty holds = record {
  last = None;
  place = empty;
  records = tables.records;
  holds = found_by_own holds;
  whole = refl;
  done = done_start nat_list_cmp_total exact_bytes change tables.records;
}

-- A change that does nothing to what it has changed.
module _ (change : RecordRow → RecordRow)
    (again : (row : RecordRow) → change (change row) ≡ change row)
  where
    -- A row that a walk has come to, after its key.
    module _ (tables : Tables) {old : Trees} {key : Row} (row : Row)
        (so_far : IsRenewing change tables old key)
      where
        -- where there is none, all rows are changed
        renewing_ends : IsFirst (rows_past key (old 3)) row false
            → HoldsFoundBy old (renewed change tables) tables.records
        renewing_ends begins =
            let none : above so_far.last so_far.records ≡ [] =
            finds_next tables.came so_far.last so_far.records key (old 3) row false so_far.place
            so_far.holds.records begins in
            let all : updated change so_far.records ≡ so_far.records =
            done_all nat_list_cmp_total exact_bytes change so_far.last so_far.records
            none so_far.done in
            subst (λ rows. HoldsFoundBy old (record tables { records = rows }) tables.records)
            (sym all ∙ so_far.whole) so_far.holds

        -- where it is already as it is changed, it is passed
        renewing_passes : (next made : Row) → IsFirst (rows_past key (old 3)) row true
            → next ≡ column row 0 ∷ [] → RenewsRow change row made false
            → IsRenewing change tables old next
        renewing_passes next made begins named stands =
            let it = finds_next tables.came so_far.last so_far.records key (old 3) row true so_far.place
            so_far.holds.records begins in
            record {
              last = Some it.0;
              place = named ∙ ap (λ one. column one 0 ∷ []) it.4;
              records = so_far.records;
              holds = so_far.holds;
              whole = so_far.whole;
              done = done_kept nat_list_cmp_total exact_bytes change so_far.last
                  so_far.records it.0 it.1 it.2 it.3 (stands tables.came (it.0, it.1) it.4) so_far.done;
            }

        -- where it is changed, so are all that are passed
        renewing_goes_on : {new : Trees} (next made : Row)
            → IsFirst (rows_past key (old 3)) row true
            → next ≡ column row 0 ∷ [] → RenewsRow change row made true → SameBut old new 3
            → new 3 ≡ rows_changed row made (old 3)
            → IsRenewing change tables new next
        renewing_goes_on {new} next made begins named made_is same now =
            let it = finds_next tables.came so_far.last so_far.records key (old 3) row true so_far.place
            so_far.holds.records begins in
            let there : get so_far.records it.0 ≡ Some it.1 =
            first_there nat_list_cmp_total exact_bytes so_far.last so_far.records it.0 it.1
            it.2 it.3 in
            let rows : new 3 ≡ rows_of (record_layout tables.came)
            (insert so_far.records it.0 (change it.1)) =
            now ∙ row_changed (record_layout tables.came) so_far.records it.0 it.1 (change it.1)
            (made_is tables.came (it.0, it.1) it.4) it.4 so_far.holds.records there in
            record {
              last = Some it.0;
              place = named ∙ ap (λ one. column one 0 ∷ []) it.4;
              records = insert so_far.records it.0 (change it.1);
              holds = found_rows (insert so_far.records it.0 (change it.1)) so_far.holds same rows;
              whole = updated_step nat_list_cmp_total exact_bytes change again
                  so_far.records it.0 it.1 there ∙ so_far.whole;
              done = done_step nat_list_cmp_total exact_bytes change again so_far.last
                  so_far.records it.0 it.1 it.2 it.3 so_far.done;
            }

    -- A step of the walk: what was read after its key.
    module _ (old mid : View) (key row : Row) (looked : IsUnchanged old mid) where
      same_trees : mid.trees ≡ old.trees
      same_trees = ap (λ (v : View). v.trees) looked

      -- no row is left
      pub renews_none : (next : Row) → IsFirst (rows_past key (old.trees 3)) row false
          → RenewsNext change old mid key next false
      renews_none next begins = record {
        only = only_looks old looked;
        renews = λ tables so_far.
            subst (λ trees. HoldsFoundBy trees (renewed change tables) tables.records)
            (sym same_trees) (renewing_ends tables row so_far begins);
      }

      -- the row stays
      pub renews_kept : (next made : Row) → IsFirst (rows_past key (old.trees 3)) row true
          → next ≡ column row 0 ∷ [] → RenewsRow change row made false
          → RenewsNext change old mid key next true
      renews_kept next made begins named stands = record {
        only = only_looks old looked;
        renews = λ tables so_far.
            subst (λ trees. IsRenewing change tables trees next) (sym same_trees)
            (renewing_passes tables row so_far next made begins named stands);
      }

      -- the row is changed
      pub renews_one : (new : View) (next made : Row)
          → IsFirst (rows_past key (old.trees 3)) row true
          → next ≡ column row 0 ∷ [] → RenewsRow change row made true
          → ChangesRow mid new 3 row made
          → RenewsNext change old new key next true
      renews_one new next made begins named made_is written =
          let rewritten = rewrites_after_look {old = old} looked written in
          record {
            only = rewritten.only;
            renews = λ tables so_far.
                renewing_goes_on tables row so_far next made begins named made_is rewritten.others
                (rewritten.rows_now ∙ ap (λ trees. rows_changed row made (trees 3)) same_trees);
          }

-- ---- records that are posted

-- a record that is posted keeps a key that does not say so
pub posted_stays : {Q : Type 0} (key : List ℕ × RecordRow → Q)
    → ((name : List ℕ) (row : RecordRow)
    → key (name, record row { posted = row.charged }) ≡ key (name, row))
    → (day : ℤ) (name : List ℕ) (row : RecordRow)
    → key (name, post_by day row) ≡ key (name, row)
posted_stays key stays day name row =
    elim (int_lt day row.priced.day) as (λ b.
    key (name, cond b row (record row { posted = row.charged })) ≡ key (name, row)) [
      | true ↦ refl
      | false ↦ stays name row
    ]

-- an index of rows with keys that stay where they are changed is that of the changed rows
module _ {K V Q : Type 0} {R : K → K → Ordering} {P : Q → Q → Ordering} {key : K × V → Q}
    {name : Q → K} (index : IsIndexKey R P key name) (change : V → V)
    (stays : (k : K) (v : V) → key (k, change v) ≡ key (k, v))
  where
    same_key : (k : K) (had : Option V)
        → option_map (λ (v : V). key (k, v)) had
        ≡ option_map (λ (v : V). key (k, v)) (option_map change had)
    same_key k None = refl
    same_key k (Some v) = ap (λ x. Some x) (sym (stays k v))

    index_stays : (m : FinMap R V) → index_of {P = P} key m ≡ index_of key (updated change m)
    index_stays m =
        index_alike index m (updated change m) (λ k. same_key k (get m k)
        ∙ ap (option_map (λ (v : V). key (k, v)))
        (sym (get_updated index.total index.exact change m k)))

-- so trees in which all rows are posted hold the tables that are posted
pub posted_held : (day : ℤ) {trees : Trees} {tables : Tables}
    → HoldsFoundBy trees (renewed (post_by day) tables) tables.records
    → Holds trees (post_rows day tables)
posted_held day {tables = tables} found =
    held_by_same found
    (index_stays identity_named (post_by day) (posted_stays identity_key (λ name row. refl) day)
    tables.records)
    (index_stays mark_named (post_by day) (posted_stays mark_key (λ name row. refl) day)
    tables.records)
    (details_stay tables.counted tables.records (post_by day)
    (posted_stays detail_shown (λ name row. refl) day))
