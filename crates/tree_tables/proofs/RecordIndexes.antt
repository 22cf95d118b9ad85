-- The rows of records, and of the two trees that find them, where a record is new or changed.
use Rattle.std.proofs.Common.{◌≡◌, ℕ, List, cond, None, Some, refl, sym, ap, ap₂}
use Rattle.std.proofs.Common.{◌∙◌}
use Rattle.std.specs.FinMap.{FinMap, get, insert, remove, get-remove}
use Rattle.std.specs.Cmp.Lexicographic.{nat_list_cmp_total}
use Rattle.std.specs.Ordering.{eq_by_cmp}
use Rattle.std.specs.declared.cmp.Ordering.{Ordering}
use Rattle.sqlite_trees.specs.Tree.{insert_entry, remove_entry}
use Rattle.sqlite_value.specs.Keys.{plain}
use Rattle.sqlite_value.specs.Order.{Row}
use Rattle.table_model.specs.Tables.{RecordRow}
use Rattle.tree_rows.specs.Indexes.{IsIndexKey, index_of, index_answer, by_bytes, by_both, by_mark}
use Rattle.tree_rows.specs.Layouts.{Layout, row_of, rows_of}
use Rattle.tree_rows.proofs.IndexOrders.{by_bytes_exact, by_mark_total, by_mark_exact}
use Rattle.tree_rows.proofs.Indexes.{indexed, index_new, index_has, index_changed, none_left}
use Rattle.tree_rows.proofs.Maps.{inserted}
use Rattle.tree_rows.proofs.PartIndexes.{part_named}
use Rattle.tree_rows.proofs.Taking.{changed, removed}
use Rattle.tree_tables.specs.Holds.{identity_key, mark_key}

-- the index key of a record by its identity
pub identity_named :
    IsIndexKey {V = RecordRow} by_bytes by_both identity_key (λ (q : List ℕ × List ℕ). q.1)
identity_named = part_named (λ (row : RecordRow). row.identity)

-- the index key of a record by its mark
pub mark_named :
    IsIndexKey {V = RecordRow} by_bytes by_mark mark_key (λ (q : ℕ × (List ℕ × List ℕ)). q.1.1)
mark_named = record {
  named = λ e. refl;
  total = nat_list_cmp_total;
  exact = by_bytes_exact;
  index_total = by_mark_total;
  index_exact = by_mark_exact;
}

-- where the row of a value makes way for that of another, these are the rows of the changed map
pub row_changed : {K V : Type 0} {R : K → K → Ordering} (layout : Layout K V R) (m : FinMap R V)
    (k : K) (v w : V) {to from : Row} {rows : List Row} → to ≡ row_of layout (k, w)
    → from ≡ row_of layout (k, v) → rows ≡ rows_of layout m → get m k ≡ Some v
    → insert_entry plain to (remove_entry plain from rows) ≡ rows_of layout (insert m k w)
row_changed layout m k v w to from rows some =
    (λ i. insert_entry plain (to i) (remove_entry plain (from i) (rows i)))
    ∙ changed layout m k v w some

module _ {K V Q : Type 0} {R : K → K → Ordering} {P : Q → Q → Ordering} {key : K × V → Q}
    {name : Q → K} (index : IsIndexKey R P key name) (layout : Layout Q (Unit {0}) P)
  where
    -- the row of a new entry joins those of the index
    pub index_row_added : (m : FinMap R V) (k : K) (v : V) {made : Row} {rows : List Row}
        → made ≡ row_of layout (key (k, v), tt) → rows ≡ rows_of layout (index_of key m)
        → get m k ≡ None
        → insert_entry plain made rows ≡ rows_of layout (index_of key (insert m k v))
    index_row_added m k v made rows none =
        let new = index_new index m k v none in
        ap₂ (insert_entry plain) made rows
        ∙ inserted layout (index_of key m) (key (k, v)) tt new.0
        ∙ ap (rows_of layout) (sym new.1)

    -- without the key of the old entry, the index does not have that of the new one
    gone : (m : FinMap R V) (k : K) (v w : V) → get m k ≡ Some v
        → get (remove (index_of {P = P} key m) (key (k, v))) (key (k, w)) ≡ None
    gone m k v w some =
        let same = eq_by_cmp P (key (k, w)) (key (k, v)) in
        let named : name (key (k, w)) ≡ k = index.named (k, w) in
        get-remove index.index_total (index_of key m) (key (k, v)) (key (k, w))
        ∙ ap (cond same None) (indexed index m (key (k, w))
        ∙ ap (λ x. index_answer P key x (key (k, w)) (get m x)) named
        ∙ ap (index_answer P key k (key (k, w))) some)
        ∙ none_left same tt

    -- where the value at a key is changed, the row of the old entry makes room for the new one's
    pub index_row_changed : (m : FinMap R V) (k : K) (v w : V) {to from : Row} {rows : List Row}
        → to ≡ row_of layout (key (k, w), tt) → from ≡ row_of layout (key (k, v), tt)
        → rows ≡ rows_of layout (index_of key m) → get m k ≡ Some v
        → insert_entry plain to (remove_entry plain from rows)
        ≡ rows_of layout (index_of key (insert m k w))
    index_row_changed m k v w to from rows some =
        (λ i. insert_entry plain (to i) (remove_entry plain (from i) (rows i)))
        ∙ ap (insert_entry plain (row_of layout (key (k, w), tt)))
        (removed layout (index_of key m) (key (k, v)) tt (index_has index m k v some))
        ∙ inserted layout (remove (index_of key m) (key (k, v))) (key (k, w)) tt
        (gone m k v w some)
        ∙ ap (rows_of layout) (sym (index_changed index m k v w some))
