-- A walk by key passes the entries of a map one by one: the first that is still to come, and what
-- is passed with it.
use Rattle.std.proofs.Common.{◌≡◌, ◌⊎◌, inl, inr, List, [], ◌∷◌, map, Bool, true, false, cond}
use Rattle.std.proofs.Common.{Option, Some, None, refl, sym, ap, subst, ◌∙◌, true≢false}
use Rattle.std.specs.Prelude.{T}
use Rattle.std.specs.Cmp.{IsTotalOrder, tied_itself}
use Rattle.std.specs.FinMap.{FinMap, IsAntisymmetric, get, entries, entries_sorted, get-entries}
use Rattle.std.specs.FinMap.{find, is_sorted}
use Rattle.std.specs.FinMap.Entries.{is_sorted-where_key, find-where_key}
use Rattle.std.specs.Ordering.{is_lt, is_eq, ordering_reverse}
use Rattle.std.specs.declared.cmp.Ordering.{Ordering}
use Rattle.std.specs.declared.cmp.Ordering.TheVariants.{Less, Equal, Greater}
use Rattle.sqlite_trees.specs.Tree.{from_key}
use Rattle.sqlite_value.specs.Keys.{plain}
use Rattle.sqlite_value.specs.Order.{Row}
use Rattle.tree_rows.specs.Changes.{is_above, above, FindsAbove}
use Rattle.tree_rows.specs.Layouts.{Layout, row_of, rows_of}
use Rattle.tree_rows.specs.Rows.{IsFirst, past_key}
use Rattle.tree_rows.proofs.Maps.{find_below, first, not_none, none_there, head_is}
use Rattle.tree_rows.proofs.Walking.{walked}

-- what is there by a test has passed it
pub passed : {A : Type 0} (b : Bool) (found : Option A) (x : A) → cond b found None ≡ Some x
    → (b ≡ true) × (found ≡ Some x)
passed true found x is = (refl, is)
passed false found x is = absurd (not_none x (sym is))

-- what is there and does not stay has not passed the test
not_passed : {A : Type 0} (b : Bool) (x : A) → cond b (Some x) None ≡ None → b ≡ false
not_passed true x is = absurd (not_none x is)
not_passed false x is = refl

module _ {K V : Type 0} {R : K → K → Ordering} (total : IsTotalOrder R)
    (exact : IsAntisymmetric R) where
  -- the entries that are still to come are in the order of their keys
  pub above_sorted : (at : Option K) (m : FinMap R V) → T (is_sorted R (above at m))
  above_sorted None m = entries_sorted m
  above_sorted (Some at) m =
      is_sorted-where_key R (λ k. is_lt (R at k)) (entries m) (entries_sorted m)

  -- what is found in them: what the map has, if it is still to come
  pub find_come : (at : Option K) (m : FinMap R V) (q : K)
      → find R q (above at m) ≡ cond (is_above R at q) (get m q) None
  find_come None m q = sym (get-entries m q)
  find_come (Some at) m q =
      find-where_key R (λ k. is_lt (R at k)) q
      (λ x t. ap (λ k. is_lt (R at k)) (sym (exact q x t))) (entries m)
      ∙ ap (λ found. cond (is_lt (R at q)) found None) (sym (get-entries m q))

  -- an entry is found under its key where it is the first
  pub find_front : (k : K) (v : V) (more : List (K × V)) → find R k ((k, v) ∷ more) ≡ Some v
  find_front k v more =
      ap (λ o. cond (is_eq o) (Some v) (find R k more)) (tied_itself total k)

  -- the first entry that is still to come is one of the map
  pub first_there : (at : Option K) (m : FinMap R V) (k : K) (v : V) (more : List (K × V))
      → above at m ≡ (k, v) ∷ more → get m k ≡ Some v
  first_there at m k v more is =
      (passed (is_above R at k) (get m k) v
      (sym (find_come at m k) ∙ ap (find R k) is ∙ find_front k v more)).1

  -- where it is passed, what is passed then is its key, or was passed before
  pub passed_with : (at : Option K) (m : FinMap R V) (k : K) (v : V) (more : List (K × V))
      → above at m ≡ (k, v) ∷ more → (q : K) (u : V) → get m q ≡ Some u
      → is_above R (Some k) q ≡ false → (q ≡ k) ⊎ (is_above R at q ≡ false)
  passed_with at m k v more is q u there behind =
      elim (R q k) as (λ o. R q k ≡ o → (q ≡ k) ⊎ (is_above R at q ≡ false)) [
        | Less ↦ λ o.
            let none : find R q ((k, v) ∷ more) ≡ None =
            ap (λ r. cond (is_eq r) (Some v) (find R q more)) o
            ∙ find_below R total q k more o (first _ _ up) in
            inr (not_passed (is_above R at q) u
            (ap (λ found. cond (is_above R at q) found None) (sym there)
            ∙ sym (find_come at m q) ∙ ap (find R q) is ∙ none))
        | Equal ↦ λ o. inl (exact q k o)
        | Greater ↦ λ o. absurd (true≢false
            (sym (ap is_lt (total.antisymm k q ∙ ap ordering_reverse o)) ∙ behind))
      ] refl
    where
      up : T (is_sorted R ((k, v) ∷ more))
      up = subst (λ es. T (is_sorted R es)) is (above_sorted at m)

  -- where none is still to come, all that the map has is passed
  pub all_passed : (at : Option K) (m : FinMap R V) → above at m ≡ [] → (q : K) (u : V)
      → get m q ≡ Some u → is_above R at q ≡ false
  all_passed at m is q u there =
      not_passed (is_above R at q) u (ap (λ found. cond (is_above R at q) found None) (sym there)
      ∙ sym (find_come at m q) ∙ ap (find R q) is)

module _ {K V : Type 0} {R : K → K → Ordering} (layout : Layout K V R) where
  -- the first row of entries is that of the first of them
  finds_first : (at : Option K) (m : FinMap R V) (es : List (K × V)) (row : Row) (there : Bool)
      → above at m ≡ es → IsFirst (map (row_of layout) es) row there
      → FindsAbove layout at m row there
  finds_first at m [] row true is begins = absurd (none_there row begins.0 (sym begins.1))
  finds_first at m (e ∷ es) row true is begins = (
    e.0,
    e.1,
    es,
    is,
    head_is row (row_of layout e) begins.0 (map (row_of layout) es)
        (sym begins.1),
  )
  finds_first at m [] row false is begins = is
  finds_first at m (e ∷ es) row false is begins =
      absurd (none_there (row_of layout e) (map (row_of layout) es) begins)

  -- a step of a walk by key finds the first entry above the key
  pub walk_step : (m : FinMap R V) (at : K) (row : Row) (there : Bool)
      → IsFirst (past_key (layout.key at) (from_key plain (layout.key at) (rows_of layout m)))
      row there → FindsAbove layout (Some at) m row there
  walk_step m at row there begins =
      finds_first (Some at) m (above (Some at) m) row there refl
      (subst (λ rows. IsFirst rows row there) (walked layout m at) begins)

  -- a walk begins with the first entry
  pub walk_start : (m : FinMap R V) (row : Row) (there : Bool)
      → IsFirst (rows_of layout m) row there → FindsAbove layout None m row there
  walk_start m row there begins = finds_first None m (entries m) row there refl begins
