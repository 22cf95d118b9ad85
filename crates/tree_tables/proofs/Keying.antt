-- Records that are found by the identities that their rows say by the second rule: the two trees that
-- find them are changed one entry at a time, in a walk over the entries of the first.
use Rattle.std.proofs.Common.{◌≡◌, ℕ, List, [], ◌∷◌, map, Bool, true, false, cond}
use Rattle.std.proofs.Common.{Option, Some, None, inl, inr, refl, sym, ap, ap₂, subst, ◌∙◌}
use Rattle.std.proofs.Common.{true≢false, arith}
use Rattle.std.specs.Prelude.{◌==◌}
use Rattle.std.proofs.lemmas.Bool.Decides.{nat_tests}
use Rattle.std.specs.FinMap.{entries, get, get-entries, get-insert, insert}
use Rattle.std.specs.Option.{option_map}
use Rattle.std.specs.Ordering.{eq_by_cmp}
use Rattle.std.proofs.lemmas.Cmp.{eq_by_cmp_equiv, nat_list_cmp_total}
use Rattle.std.proofs.lemmas.Map.Lookups.{exact_bytes}
use Rattle.sqlite_trees.specs.Tree.{Trees}
use Rattle.sqlite_trees.specs.View.{View}
use Rattle.sqlite_value.specs.Order.{Row, column}
use Rattle.sqlite_value.specs.declared.value.Value.{Value}
use Rattle.sqlite_value.specs.declared.value.Value.TheVariants.{Blob}
use Rattle.book_model.specs.Words.{by_bytes}
use Rattle.table_model.specs.Steps.{rename_rows}
use Rattle.table_model.specs.RowChanges.{by_second_rule}
use Rattle.table_model.specs.Tables.{CameTable, RecordRow, RecordTable, Tables}
use Rattle.tree_rows.specs.Changes.{above, is_above, FindsAbove}
use Rattle.tree_rows.specs.Indexes.{by_both}
use Rattle.tree_rows.specs.Rows.{Finds, IsFirst, IsUnchanged, rows_changed}
use Rattle.tree_rows.proofs.Indexes.{index_has, index_names}
use Rattle.tree_rows.proofs.Passing.{all_passed, first_there, passed_with, walk_start, walk_step}
use Rattle.tree_rows.proofs.Taking.{some_is}
use Rattle.tree_rows.proofs.Updating.{get_updated, updated_done, updated_step}
use Rattle.tree_tables.proofs.CountedRows.{details_same}
use Rattle.tree_tables.proofs.Holding.{SameBut, apart, has_rows, have_but, holds_rows}
use Rattle.tree_tables.proofs.Layouts.{identity_layout, mark_layout}
use Rattle.tree_tables.proofs.Looking.{only_both, only_looks, rewrites_after_look}
use Rattle.tree_tables.proofs.RecordIndexes.{identity_named, index_row_changed, mark_named}
use Rattle.tree_tables.proofs.Records.{record_there}
use Rattle.tree_tables.proofs.Renewing.{held_by_same, same_beside}
use Rattle.tree_tables.specs.Columns.{detail_columns, identity_columns, mark_columns}
use Rattle.tree_tables.specs.Columns.{record_columns}
use Rattle.tree_tables.specs.Holds.{Holds, detail_index, identity_index, identity_key, marks}
use Rattle.tree_tables.specs.Walks.{HoldsFoundBy, IsKeying, KeysNext, MovesKeys, entry_key}
use Rattle.tree_tables.specs.Walks.{rows_past, with_rows_of}

-- before its first step a walk has passed nothing
pub keying_starts : (trees : Trees) (tables : Tables) (key : Row) → key ≡ []
    → HoldsFoundBy trees (rename_rows tables) tables.records
    → IsKeying (rename_rows tables) trees key
keying_starts trees tables key empty found = record {
  last = None;
  place = empty;
  keyed = tables.records;
  holds = found;
  whole = refl;
  done = λ name row there behind. absurd (true≢false behind);
}

-- the bytes of a value
abbrev bytes_in : Value → List ℕ
bytes_in (Blob bytes) = bytes
bytes_in value = []

-- the first entry after a walk's key is the first that is still to come
next_entry : (last : Option (List ℕ × List ℕ)) (m : RecordTable) (key : Row) (rows : List Row)
    (row : Row) (there : Bool) → key ≡ entry_key last
    → rows ≡ map identity_columns (entries (identity_index m))
    → IsFirst (rows_past key rows) row there
    → FindsAbove identity_layout last (identity_index m) row there
next_entry None m key rows row there place held begins =
    walk_start identity_layout (identity_index m) row there
    (subst (λ some. IsFirst some row there) (ap₂ rows_past place held) begins)
next_entry (Some entry) m key rows row there place held begins =
    walk_step identity_layout (identity_index m) entry row there
    (subst (λ some. IsFirst some row there) (ap₂ rows_past place held) begins)

-- trees are the same with other rows of the records, but for these
other_rows : (came : CameTable) (keyed others : RecordTable) (trees : Trees)
    → SameBut (with_rows_of came keyed trees) (with_rows_of came others trees) 3
other_rows came keyed others trees other apart =
    let is_other : (other == 3) ≡ false = grind (arith, nat_tests, apart) in
    ap (λ b. cond b (map (record_columns came) (entries others)) (trees other)) is_other
    ∙ sym (ap (λ b. cond b (map (record_columns came) (entries keyed)) (trees other)) is_other)

-- A walk has come to a key, and looks at the first entry after it.
module _ (tables : Tables) {old : Trees} {key : Row} (so_far : IsKeying tables old key) where
  -- where there is none, all records are found by what their rows say
  keying_ends : (row : Row) → IsFirst (rows_past key (old 6)) row false → Holds old tables
  keying_ends row begins =
      let none : above so_far.last (identity_index so_far.keyed) ≡ [] =
      next_entry so_far.last so_far.keyed key (old 6) row false so_far.place
      so_far.holds.rest.identity_index begins in
      let all : (name : List ℕ) (row : RecordRow) → get so_far.keyed name ≡ Some row
      → by_second_rule row ≡ row =
      λ name row there. so_far.done name row there
      (all_passed identity_layout.total identity_layout.exact so_far.last
      (identity_index so_far.keyed) none (row.identity, name) tt
      (index_has identity_named so_far.keyed name row there)) in
      let same : so_far.keyed ≡ tables.records =
      sym (updated_done nat_list_cmp_total exact_bytes by_second_rule so_far.keyed all)
      ∙ so_far.whole in
      held_by_same so_far.holds (ap identity_index same) (ap marks same)
      (ap (detail_index tables.counted) same)

  -- An entry, and the row of the record that it names.
  module _ {named : Row} (entry : Row) {row : Row} {hit : Bool}
      (begins : IsFirst (rows_past key (old 6)) entry true)
      (named_is : named ≡ column entry 1 ∷ []) (finds : Finds named (old 3) row hit)
      (there : hit ≡ true)
    where
      abbrev it : FindsAbove identity_layout so_far.last (identity_index so_far.keyed) entry true
      it = next_entry so_far.last so_far.keyed key (old 6) entry true so_far.place
          so_far.holds.rest.identity_index begins

      -- the key of the entry
      abbrev at : List ℕ × List ℕ
      at = it.0

      -- it stands for a record
      names : (v : RecordRow) × (get so_far.keyed at.1 ≡ Some v) × (identity_key (at.1, v) ≡ at)
      names = index_names identity_named so_far.keyed at
          (sym (get-entries (identity_index so_far.keyed) at)
          ∙ first_there identity_layout.total identity_layout.exact so_far.last
          (identity_index so_far.keyed) at tt it.2 it.3)

      abbrev was : RecordRow
      was = names.0

      -- which has its identity by the second rule in its row
      now_there : get tables.records at.1 ≡ Some (by_second_rule was)
      now_there =
          ap (λ (m : RecordTable). get m at.1) (sym so_far.whole)
          ∙ get_updated nat_list_cmp_total exact_bytes by_second_rule so_far.keyed at.1
          ∙ ap (option_map by_second_rule) names.1

      row_is : row ≡ record_columns tables.came (at.1, by_second_rule was)
      row_is =
          let found = record_there tables {name = at.1} so_far.holds.records
          (named_is ∙ ap (λ one. column one 1 ∷ []) it.4) finds there in
          found.2 ∙ ap (λ one. record_columns tables.came (at.1, one))
          (some_is found.0 (by_second_rule was) (sym found.1 ∙ now_there))

      -- the next key of the walk
      next_is : (next : Row) → next ≡ column entry 0 ∷ column entry 1 ∷ []
          → next ≡ entry_key (Some at)
      next_is next is = is ∙ ap (λ one. column one 0 ∷ column one 1 ∷ []) it.4

      -- a record that is passed with the entry is the entry's own, or was passed before
      passed : (name : List ℕ) (one : RecordRow) → get so_far.keyed name ≡ Some one
          → is_above by_both (Some at) (one.identity, name) ≡ false
          → by_second_rule was ≡ was → by_second_rule one ≡ one
      passed name one is behind kept =
          elim (passed_with identity_layout.total identity_layout.exact so_far.last
          (identity_index so_far.keyed) at tt it.2 it.3 (one.identity, name) tt
          (index_has identity_named so_far.keyed name one is) behind) [
            | inl same ↦
                let value : was ≡ one = some_is was one (sym names.1
                ∙ ap (get so_far.keyed) (sym (ap (λ (p : List ℕ × List ℕ). p.1) same)) ∙ is) in
                ap by_second_rule (sym value) ∙ kept ∙ value
            | inr before ↦ so_far.done name one is before
          ]

      -- where the record has that identity by the second rule too, the entry is passed
      keying_passes : (next : Row) → next ≡ column entry 0 ∷ column entry 1 ∷ []
          → column row 1 ≡ column entry 0 → IsKeying tables old next
      keying_passes next is same =
          let value : Blob (by_second_rule was).identity ≡ Blob at.0 =
          sym (ap (λ one. column one 1) row_is) ∙ same ∙ ap (λ one. column one 0) it.4 in
          let identity : (by_second_rule was).identity ≡ was.identity =
          ap bytes_in value ∙ sym (ap (λ (p : List ℕ × List ℕ). p.0) names.2) in
          let kept : by_second_rule was ≡ was =
          ap (λ i. record was { identity = i }) identity in
          record {
            last = Some at;
            place = next_is next is;
            keyed = so_far.keyed;
            holds = so_far.holds;
            whole = so_far.whole;
            done = λ name one found behind. passed name one found behind kept;
          }

      -- else it makes way for one with that identity, and so does the record's mark
      keying_goes_on : {mid new : Trees} (next : Row) → next ≡ column entry 0 ∷ column entry 1 ∷ []
          → SameBut old mid 6
          → mid 6 ≡ rows_changed next (column row 1 ∷ column next 1 ∷ []) (old 6)
          → SameBut mid new 7
          → new 7 ≡ rows_changed (column row 9 ∷ column next 0 ∷ column next 1 ∷ [])
          (column row 9 ∷ column row 1 ∷ column next 1 ∷ []) (mid 7)
          → IsKeying tables new next
      keying_goes_on {mid} {new} next is one identities_now two marks_now =
          let keyed = insert so_far.keyed at.1 (by_second_rule was) in
          let place : next ≡ entry_key (Some at) = next_is next is in
          let id : at.0 ≡ was.identity = sym (ap (λ (p : List ℕ × List ℕ). p.0) names.2) in
          let entry_is : next ≡ identity_columns (identity_key (at.1, was), tt) =
          place ∙ ap (λ i. Blob i ∷ Blob at.1 ∷ []) id in
          let identity_rows : mid 6 ≡ map identity_columns (entries (identity_index keyed)) =
          identities_now
          ∙ index_row_changed identity_named identity_layout so_far.keyed at.1 was
          (by_second_rule was) (λ i. column (row_is i) 1 ∷ column (entry_is i) 1 ∷ []) entry_is
          so_far.holds.rest.identity_index names.1 in
          let mark_rows : new 7 ≡ map mark_columns (entries (marks keyed)) =
          marks_now
          ∙ index_row_changed mark_named mark_layout so_far.keyed at.1 was (by_second_rule was)
          (λ i. column (row_is i) 9 ∷ column (row_is i) 1 ∷ column (entry_is i) 1 ∷ [])
          (λ i. column (row_is i) 9 ∷ column (entry_is i) 0 ∷ column (entry_is i) 1 ∷ [])
          (one 7 (apart 7 6 refl) ∙ so_far.holds.rest.marks) names.1 in
          let shown_rows : new 10 ≡ map detail_columns (entries (detail_index tables.counted keyed)) =
          two 10 (apart 10 7 refl) ∙ one 10 (apart 10 6 refl) ∙ so_far.holds.rest.details
          ∙ ap (λ shown. map detail_columns (entries shown))
          (sym (details_same tables.counted so_far.keyed at.1 was (by_second_rule was) names.1 refl))
          in
          record {
            last = Some at;
            place = place;
            keyed = keyed;
            holds = record {
              records = two 3 (apart 3 7 refl) ∙ one 3 (apart 3 6 refl) ∙ so_far.holds.records;
              rest = holds_rows so_far.holds.rest.placed
                  (have_but {old = with_rows_of tables.came keyed new} 10 (λ other apart. refl) shown_rows
                  (have_but 7 (same_beside tables.came keyed 7 two) mark_rows
                  (have_but 6 (same_beside tables.came keyed 6 one) identity_rows
                  (have_but 3 (other_rows tables.came so_far.keyed keyed old) refl (has_rows so_far.holds.rest) refl)
                  refl) refl) refl);
            };
            whole = updated_step nat_list_cmp_total exact_bytes by_second_rule
                (λ one. refl) so_far.keyed at.1 was names.1 ∙ so_far.whole;
            done = λ name one found behind.
                elim (eq_by_cmp by_bytes name at.1) as (λ b.
                cond b (Some (by_second_rule was)) (get so_far.keyed name) ≡ Some one
                → eq_by_cmp by_bytes name at.1 ≡ b → by_second_rule one ≡ one) [
                  | true ↦ λ now tie.
                      let value : by_second_rule was ≡ one =
                      some_is (by_second_rule was) one now in
                      ap by_second_rule (sym value) ∙ value
                  | false ↦ λ now tie. elim (passed_with identity_layout.total
                      identity_layout.exact so_far.last (identity_index so_far.keyed) at tt it.2 it.3
                      (one.identity, name) tt (index_has identity_named so_far.keyed name one now)
                      behind) [
                        | inl here ↦ absurd (true≢false
                            (sym ((eq_by_cmp_equiv nat_list_cmp_total).refl at.1)
                            ∙ sym (ap (λ (p : List ℕ × List ℕ). eq_by_cmp by_bytes p.1 at.1) here)
                            ∙ tie))
                        | inr before ↦ so_far.done name one now before
                      ]
                ] (sym (get-insert nat_list_cmp_total so_far.keyed at.1 (by_second_rule was) name)
                ∙ found) refl;
          }

-- A step of the walk: what was read after its key, and what was found of the record.
module _ (old mid : View) (key entry : Row) (looked : IsUnchanged old mid) where
  same_trees : mid.trees ≡ old.trees
  same_trees = ap (λ (v : View). v.trees) looked

  -- no entry is left
  pub keys_none : (next : Row) → IsFirst (rows_past key (old.trees 6)) entry false
      → KeysNext old mid key next false
  keys_none next begins = record {
    only = only_looks old looked;
    keys = λ tables so_far.
        subst (λ trees. Holds trees tables) (sym same_trees)
        (keying_ends tables so_far entry begins);
  }

  module _ {named row : Row} {hit : Bool} (next : Row)
      (begins : IsFirst (rows_past key (old.trees 6)) entry true)
      (next_is : next ≡ column entry 0 ∷ column entry 1 ∷ [])
      (named_is : named ≡ column entry 1 ∷ []) (finds : Finds named (old.trees 3) row hit)
      (there : hit ≡ true)
    where
      -- the entry stays
      pub keys_kept : column row 1 ≡ column next 0 → KeysNext old mid key next true
      keys_kept same = record {
        only = only_looks old looked;
        keys = λ tables so_far.
            subst (λ trees. IsKeying tables trees next) (sym same_trees)
            (keying_passes tables so_far entry begins named_is finds there next next_is
            (same ∙ ap (λ one. column one 0) next_is));
      }

      -- it makes way
      pub keys_one : (new : View) → MovesKeys mid new row next → KeysNext old new key next true
      keys_one new moves =
          let one = rewrites_after_look {old = old} looked moves.identity in
          let two = moves.mark in
          record {
            only = only_both old one.only two.only;
            keys = λ tables so_far.
                keying_goes_on tables so_far entry begins named_is finds there next next_is
                one.others (one.rows_now ∙ ap (λ trees. rows_changed next
                (column row 1 ∷ column next 1 ∷ []) (trees 6)) same_trees)
                two.others two.rows_now;
          }
