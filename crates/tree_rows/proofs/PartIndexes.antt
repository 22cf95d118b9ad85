-- An index by a part of each value and then by name: those with a given part are there by name.
use Rattle.std.proofs.Common.{◌≡◌, List, map, Bool, true, ℕ, refl}
use Rattle.std.specs.Prelude.{filter}
use Rattle.std.specs.Cmp.Lexicographic.{nat_list_cmp_total}
use Rattle.std.specs.FinMap.{FinMap, entries}
use Rattle.tree_rows.specs.Indexes.{IsIndexKey, index_of, indexed_by}
use Rattle.tree_rows.specs.Indexes.{by_bytes, by_both, part_and_name}
use Rattle.tree_rows.proofs.IndexLists.{index_in_order}
use Rattle.tree_rows.proofs.IndexOrders.{by_bytes_exact, by_both_total, by_both_exact}

-- the part and the name are an index key, which names the entry by its second part
pub part_named : {V : Type 0} (part : V → List ℕ)
    → IsIndexKey by_bytes by_both (part_and_name part) (λ q. q.1)
part_named part = record {
  named = λ e. refl;
  total = nat_list_cmp_total;
  exact = by_bytes_exact;
  index_total = by_both_total;
  index_exact = by_both_exact;
}

-- The test is passed by no part but the given one.
module _ {V : Type 0} (part : V → List ℕ) (given : List ℕ) (t : List ℕ → Bool)
    (only : (x : List ℕ) → t x ≡ true → x ≡ given)
  where
    -- the entries of the index that have the part are those of the map that have it, in its order
    pub part_in_order : (m : FinMap by_bytes V)
        → filter (λ e. t e.0.0) (entries (index_of {P = by_both} (part_and_name part) m))
        ≡ map (indexed_by (part_and_name part)) (filter (λ e. t (part e.1)) (entries m))
    part_in_order m =
        index_in_order (part_named part) nat_list_cmp_total (λ q. q.0) (λ e f. refl) given
        (λ q. t q.0) (λ q. only q.0) m
