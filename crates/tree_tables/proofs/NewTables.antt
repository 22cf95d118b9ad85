-- The tables of new books, in trees that had no rows.
use Rattle.std.proofs.Common.{◌≡◌, ◌<◌, ◌∙◌, ℕ, suc, List, [], ◌∷◌, Result, Ok, Err}
use Rattle.std.proofs.Common.{Bool, true, false, cond, Option, None, length, map, refl, sym, ap}
use Rattle.std.proofs.Common.{arith}
use Rattle.std.proofs.lemmas.Bool.Decides.{nat_tests}
use Rattle.std.specs.Prelude.{◌==◌, IfErr, OnOk}
use Rattle.std.specs.List.{AllByRecursion}
use Rattle.std.specs.Cmp.Lexicographic.{nat_list_cmp_total}
use Rattle.std.specs.FinMap.{empty, entries, from_entries, get-empty}
use Rattle.std.specs.FinMap.{get-from_entries, same_map}
use Rattle.std.specs.declared.cmp.Ordering.{Ordering}
use Rattle.sqlite_trees.specs.Tree.{Trees, insert_entry, with_tree}
use Rattle.sqlite_trees.specs.View.{View, IsClean, IsFailure, OnlyWrites, SetsTree}
use Rattle.sqlite_trees.specs.declared.error.StoreError.{StoreError}
use Rattle.sqlite_trees.specs.declared.store.Store.{Ghosts}
use Rattle.sqlite_value.specs.Order.{Row}
use Rattle.sqlite_value.specs.declared.keys.Order.{Order}
use Rattle.table_model.specs.Tables.{RecordRow}
use Rattle.table_model.specs.TablesAfter.{new_tables}
use Rattle.tree_rows.specs.Indexes.{IsIndexKey, by_bytes, index_of, indexed_by}
use Rattle.tree_tables.specs.Columns.{book_columns, detail_columns}
use Rattle.table_model.specs.DetailsRead.{detail_shown}
use Rattle.tree_tables.specs.Holds.{Holds, by_shown, counted_among, detail_index}
use Rattle.tree_tables.specs.States.{state}
use Rattle.tree_tables.specs.Steps.{HasNoRows, Makes}
use Rattle.tree_tables.proofs.Holding.{EachHas, SameBut, have_but, holds_rows, table_rows}
use Rattle.tree_tables.proofs.Holding.{with_rows}
use Rattle.tree_tables.proofs.ChoiceRows.{chosen_named}
use Rattle.tree_tables.proofs.CountedRows.{detail_named, get_counted}
use Rattle.tree_tables.proofs.RecordIndexes.{identity_named, mark_named}
use Rattle.tree_rows.proofs.Calls.{Quiet}
use Rattle.tree_rows.proofs.IndexLists.{no_entries}
use Rattle.tree_rows.proofs.IndexOrders.{by_bytes_exact}
use Rattle.tree_rows.proofs.Maps.{not_none}
use Rattle.tree_tables.proofs.Looking.{survives}

-- a map of nothing has no rows,
no_rows : {K V : Type 0} (R : K → K → Ordering) (columns : K × V → Row)
    → map columns (entries (empty {X = V} {R = R})) ≡ []
no_rows R columns = ap (map columns) (no_entries R)

-- and neither has an index of it
no_index : {K V Q : Type 0} {R : K → K → Ordering} {P : Q → Q → Ordering} {key : K × V → Q}
    {name : Q → K} → IsIndexKey R P key name → (columns : Q × Unit {0} → Row)
    → map columns (entries (index_of {P = P} key (empty {X = V} {R = R}))) ≡ []
unfolding index_of
no_index {R = R} {P = P} {key = key} index columns =
    ap (λ m. map columns (entries m))
    (ap (λ es. from_entries (map (indexed_by key) es)) (no_entries R)
    ∙ same_map index.index_total index.index_exact (from_entries []) empty (λ q.
    get-from_entries index.index_total [] q ∙ sym (get-empty P q)))
    ∙ no_rows P columns

-- of no records none is counted
none_counted : counted_among empty empty ≡ empty
none_counted =
    same_map nat_list_cmp_total by_bytes_exact (counted_among empty empty) empty (λ name.
    get_counted empty empty name ∙ by _ _ (get-empty by_bytes name)
    ∙ sym (get-empty by_bytes name))
  where
    by : (b : Bool) (found : Option RecordRow) → found ≡ None → cond b found None ≡ None
    by true found none = none
    by false found none = refl

-- so there are no details
no_details : map detail_columns (entries (detail_index new_tables.counted new_tables.records)) ≡ []
no_details =
    ap (λ rows. map detail_columns (entries (index_of {P = by_shown} detail_shown rows))) none_counted
    ∙ no_index detail_named detail_columns

-- the tables of new books have no row but that of the book
abbrev no_book : List (List Row)
no_book = with_rows 0 [] (table_rows new_tables)

only_book : AllByRecursion (λ rows. rows ≡ []) no_book
only_book = search (no_rows, no_index, no_details, identity_named, mark_named, chosen_named) depth 28

-- which trees without rows have
have_none : {trees : Trees} (all : List (List Row)) → AllByRecursion (λ rows. rows ≡ []) all
    → ((tree : ℕ) → tree < length all → trees tree ≡ []) → EachHas trees all
have_none [] none empty = tt
have_none (rows ∷ more) none empty = (
  empty 0 (omega arith) ∙ sym none.0,
  have_none more none.1 (λ tree within. empty (suc tree) (omega (arith, within))),
)

module _ {old new : Trees} (order : Order) (row : Row) (none : HasNoRows old)
    (now : new ≡ with_tree old 0 (insert_entry order row (old 0)))
    (is : row ≡ book_columns new_tables.book) where
  -- the other trees are as they were
  others : SameBut old new 0
  others other apart =
      let is_other : (other == 0) ≡ false = grind (arith, nat_tests, apart) in
      ap (λ (trees : Trees). trees other) now
      ∙ ap (λ b. cond b (insert_entry order row (old 0)) (old other)) is_other

  -- The row of the book makes the tables of new books.
  pub holds_new : Holds new new_tables
  holds_new =
      holds_rows (λ key row there. absurd (not_none row (sym there ∙ get-empty _ key)))
      (have_but {all = no_book} 0 others (ap (λ (trees : Trees). trees 0) now
      ∙ ap (insert_entry order row) (none.empty 0 (omega arith)) ∙ ap (λ row. row ∷ []) is)
      (record { each = have_none no_book only_book none.empty }) refl)

-- a call that puts the row makes new books
pub makes_by : {S T : Type 0} (ghosts : Ghosts S) (old new : S) (order : Order) (row : Row)
    (result : Result T StoreError) → Quiet ghosts old new
    → IfErr result (IsFailure (ghosts.view old) (ghosts.view new))
    → OnOk result (IsClean (ghosts.view new) → OnlyWrites (ghosts.view old) (ghosts.view new))
    → OnOk result (IsClean (ghosts.view new)
    → SetsTree (ghosts.view old) (ghosts.view new) 0 (insert_entry order row))
    → row ≡ book_columns new_tables.book
    → Makes result (state ghosts old) (state ghosts new)
makes_by ghosts old new order row (Ok value) call failed only sets is = record {
  survives = survives ghosts call;
  done = λ clean. (
    only clean,
    λ none. holds_new order row none (ap (λ (v : View). v.trees) (sets clean).is) is,
  );
  refused = λ clean. tt;
}
makes_by ghosts old new order row (Err error) call failed only sets is = record {
  survives = survives ghosts call;
  done = λ clean. tt;
  refused = λ clean. failed.kept;
}
