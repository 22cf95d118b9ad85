-- What a look-up, a write and a removal by key are to the map that a tree holds.
use Rattle.std.proofs.Common.{◌≡◌, ℕ, List, Bool, true, false, cond, None, Some, refl, sym, ap}
use Rattle.std.proofs.Common.{ap₂, subst, ◌∙◌}
use Rattle.sqlite_trees.specs.View.{View}
use Rattle.std.proofs.Common.{true≢false}
use Rattle.std.specs.FinMap.{FinMap, get, insert, remove, get-remove, same_map}
use Rattle.std.specs.Ordering.{eq_by_cmp, is_eq}
use Rattle.std.specs.declared.cmp.Ordering.{Ordering}
use Rattle.std.specs.declared.cmp.Ordering.TheVariants.{Less, Equal, Greater}
use Rattle.sqlite_trees.specs.Tree.{insert_entry, remove_entry}
use Rattle.sqlite_value.specs.Keys.{plain}
use Rattle.sqlite_value.specs.Order.{Row}
use Rattle.tree_rows.specs.Layouts.{Layout, row_of, rows_of, Answers}
use Rattle.tree_rows.specs.Rows.{Finds, Puts, Drops, Replaces, replaced, without}
use Rattle.tree_rows.proofs.Maps.{looked_up, inserted}
use Rattle.tree_rows.proofs.Taking.{removed, changed}

module _ {K V : Type 0} {R : K → K → Ordering} (layout : Layout K V R) where
  -- a look-up answers whether the map has the key, and its row
  pub found_is : (m : FinMap R V) (k : K) (row : Row) (hit : Bool)
      → Finds (layout.key k) (rows_of layout m) row hit → Answers layout m k row hit
  found_is m k row hit finds = looked_up layout m k row finds.there hit finds.first finds.is

  -- a row that is written under its key is that of the map with the key's new value
  pub put_is : (m : FinMap R V) (k : K) (v : V) (found : Row) (hit : Bool)
      → Finds (layout.key k) (rows_of layout m) found hit
      → insert_entry plain (row_of layout (k, v)) (without hit found (rows_of layout m))
      ≡ rows_of layout (insert m k v)
  put_is m k v found hit finds = by_answer hit (found_is m k found hit finds)
    where
      by_answer : (hit : Bool) → Answers layout m k found hit
          → insert_entry plain (row_of layout (k, v)) (without hit found (rows_of layout m))
          ≡ rows_of layout (insert m k v)
      by_answer true answer =
          ap (λ row. insert_entry plain (row_of layout (k, v)) (remove_entry plain row
          (rows_of layout m))) answer.2 ∙ changed layout m k answer.0 v answer.1
      by_answer false answer = inserted layout m k v answer

  -- a comparison that ties
  tied : (o : Ordering) → is_eq o ≡ true → o ≡ Equal
  tied Less is = absurd (true≢false (sym is))
  tied Equal is = refl
  tied Greater is = absurd (true≢false (sym is))

  -- a map without a key that it has not is the map
  remove_none : (m : FinMap R V) (k : K) → get m k ≡ None → remove m k ≡ m
  remove_none m k none = same_map layout.total layout.exact (remove m k) m (λ q.
      get-remove layout.total m k q ∙ by_key q (eq_by_cmp R q k) refl)
    where
      by_key : (q : K) (same : Bool) → eq_by_cmp R q k ≡ same
          → cond (eq_by_cmp R q k) None (get m q) ≡ get m q
      by_key q true is =
          ap (λ b. cond b None (get m q)) is ∙ sym none
          ∙ ap (get m) (sym (layout.exact q k (tied (R q k) is)))
      by_key q false is = ap (λ b. cond b None (get m q)) is

  -- the rows without the one that has the key are those of the map without the key
  pub drop_is : (m : FinMap R V) (k : K) (found : Row) (hit : Bool)
      → Finds (layout.key k) (rows_of layout m) found hit
      → without hit found (rows_of layout m) ≡ rows_of layout (remove m k)
  drop_is m k found hit finds = by_answer hit (found_is m k found hit finds)
    where
      by_answer : (hit : Bool) → Answers layout m k found hit
          → without hit found (rows_of layout m) ≡ rows_of layout (remove m k)
      by_answer true answer =
          ap (λ row. remove_entry plain row (rows_of layout m)) answer.2
          ∙ removed layout m k answer.0 answer.1
      by_answer false answer = ap (rows_of layout) (sym (remove_none m k answer))

  -- so where a row was put under its key, the tree holds the map with the key's new value
  pub rows_put : {old new : View} {tree : ℕ} {key row : Row} (m : FinMap R V) (k : K) (v : V)
      → Puts old new tree key row → old.trees tree ≡ rows_of layout m → key ≡ layout.key k
      → row ≡ row_of layout (k, v) → new.trees tree ≡ rows_of layout (insert m k v)
  rows_put {key = key} m k v puts held key_is row_is =
      puts.rewrites.rows_now
      ∙ ap₂ (λ one rows. insert_entry plain one (without puts.hit puts.found rows)) row_is held
      ∙ put_is m k v puts.found puts.hit
      (subst (λ one. Finds one (rows_of layout m) puts.found puts.hit) key_is
      (subst (λ rows. Finds key rows puts.found puts.hit) held puts.finds))

  -- and where the row of a key was dropped, the map without it
  pub rows_dropped : {old new : View} {tree : ℕ} {key : Row} (m : FinMap R V) (k : K)
      → Drops old new tree key → old.trees tree ≡ rows_of layout m → key ≡ layout.key k
      → new.trees tree ≡ rows_of layout (remove m k)
  rows_dropped {key = key} m k drops held key_is =
      drops.rewrites.rows_now
      ∙ ap (without drops.hit drops.found) held
      ∙ drop_is m k drops.found drops.hit
      (subst (λ one. Finds one (rows_of layout m) drops.found drops.hit) key_is
      (subst (λ rows. Finds key rows drops.found drops.hit) held drops.finds))

  -- Where a row is put in the place of the key's, if that is there, the tree holds a map that has
  -- this row then, and is the same where it is not.
  pub rows_replaced : {old new : View} {tree : ℕ} {key row : Row} (m n : FinMap R V) (k : K)
      → Replaces old new tree key row → old.trees tree ≡ rows_of layout m → key ≡ layout.key k
      → ((v : V) → get m k ≡ Some v
      → insert_entry plain row (remove_entry plain (row_of layout (k, v)) (rows_of layout m))
      ≡ rows_of layout n)
      → (get m k ≡ None → m ≡ n) → new.trees tree ≡ rows_of layout n
  rows_replaced {key = key} {row = row} m n k replaces held key_is there missing =
      replaces.rewrites.rows_now
      ∙ ap (replaced replaces.hit replaces.found row) held
      ∙ by_answer replaces.hit (found_is m k replaces.found replaces.hit
      (subst (λ one. Finds one (rows_of layout m) replaces.found replaces.hit) key_is
      (subst (λ rows. Finds key rows replaces.found replaces.hit) held replaces.finds)))
    where
      by_answer : (hit : Bool) → Answers layout m k replaces.found hit
          → replaced hit replaces.found row (rows_of layout m) ≡ rows_of layout n
      by_answer true answer =
          ap (λ one. insert_entry plain row (remove_entry plain one (rows_of layout m))) answer.2
          ∙ there answer.0 answer.1
      by_answer false none = ap (rows_of layout) (missing none)

  -- and what a look-up shows is the map's
  pub row_found : {rows : List Row} {key row : Row} {hit : Bool} (m : FinMap R V) (k : K)
      → Finds key rows row hit → rows ≡ rows_of layout m → key ≡ layout.key k
      → Answers layout m k row hit
  row_found {key = key} {row = row} {hit = hit} m k finds held key_is =
      found_is m k row hit (subst (λ one. Finds one (rows_of layout m) row hit) key_is
      (subst (λ rows. Finds key rows row hit) held finds))
