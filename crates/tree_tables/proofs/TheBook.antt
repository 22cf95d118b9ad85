-- The one row of the book.
use Rattle.std.proofs.Common.{◌≡◌, List, [], ◌∷◌, Bool, true, false, not, cond, pos, arith}
use Rattle.std.proofs.Common.{refl, sym, ap, ap₂, ◌&&◌, subst, ◌∙◌, Result}
use Rattle.std.specs.Prelude.{OnErr, OnOk}
use Rattle.std.specs.Cmp.{tied_itself}
use Rattle.std.specs.Ordering.{is_eq, is_lt}
use Rattle.std.specs.declared.cmp.Ordering.TheVariants.{Equal}
use Rattle.sqlite_trees.specs.Tree.{Trees, from_key, insert_entry}
use Rattle.sqlite_trees.specs.View.{View, IsClean, KeepsCommitted}
use Rattle.sqlite_trees.specs.declared.error.StoreError.{StoreError}
use Rattle.sqlite_trees.specs.declared.store.Store.{Ghosts}
use Rattle.sqlite_value.proofs.KeyLemmas.{entry_cmp_total}
use Rattle.sqlite_value.proofs.OrderLemmas.{row_cmp_total}
use Rattle.sqlite_value.specs.Keys.{plain, prefix_cmp}
use Rattle.sqlite_value.specs.Order.{Row, column}
use Rattle.sqlite_value.specs.declared.value.Value.TheVariants.{Int}
use Rattle.table_model.specs.Tables.{BookRow, Tables}
use Rattle.tree_rows.specs.Rows.{ChangesRow, Finds, IsFirst, IsUnchanged, rows_changed}
use Rattle.tree_rows.proofs.Calls.{Quiet, clean_before}
use Rattle.tree_rows.proofs.Maps.{begins_with, prefix_of}
use Rattle.tree_tables.proofs.Holding.{has_rows, have_but, holds_rows}
use Rattle.tree_tables.proofs.Looking.{does_after, only_looks, rewrites_after_look}
use Rattle.tree_tables.proofs.RowsRead.{same_count}
use Rattle.tree_tables.specs.Columns.{book_columns}
use Rattle.tree_tables.specs.Holds.{Holds, begin_with_book, has_book}
use Rattle.tree_tables.specs.States.{state}
use Rattle.tree_tables.specs.Steps.{Always, Does, HasNoRows}
use Rattle.tree_tables.specs.Stored.{book_entry}
use Rattle.tree_tables.specs.declared.book_row.StoredBook.{StoredBook}

-- it has its key
at_first : (book : BookRow) → prefix_cmp plain (book_columns book) (Int (pos 1) ∷ []) ≡ Equal
at_first book =
    prefix_of (Int (pos 1) ∷ [])
    (Int (pos book.rule) ∷ Int (pos book.adopted) ∷ Int (pos book.held) ∷ Int (pos book.amount) ∷ [])
    (Int (pos 1) ∷ []) refl
    ∙ tied_itself row_cmp_total (Int (pos 1) ∷ [])

-- the row of the book is found
pub book_there : (rows : List Row) (book : BookRow) (key row : Row) (hit : Bool)
    → rows ≡ book_columns book ∷ [] → key ≡ Int (pos 1) ∷ [] → Finds key rows row hit
    → (hit ≡ true) × (row ≡ book_columns book)
book_there rows book key row hit is named finds =
    let from : from_key plain key rows ≡ book_columns book ∷ [] =
    ap₂ (from_key plain) named is
    ∙ ap (λ o. cond (is_lt o) [] (book_columns book ∷ [])) (at_first book) in
    let begins = subst (λ some. IsFirst some row finds.there) from finds.first in
    let both = begins_with (book_columns book) [] row finds.there begins in (
      finds.is ∙ ap₂ (λ there (one : Row). there && is_eq (prefix_cmp plain one key)) both.0 both.1
          ∙ ap (λ one. is_eq (prefix_cmp plain (book_columns book) one)) named
          ∙ ap is_eq (at_first book),
      both.1,
    )

-- what a look-up finds, by the first of the rows from the key on
found_first : (rows : List Row) (row : Row) (there : Bool) → IsFirst rows row there
    → (there && is_eq (prefix_cmp plain row (Int (pos 1) ∷ []))) ≡ begin_with_book rows
found_first rows row true (more, is) = ap begin_with_book (sym is)
found_first rows row false none = ap begin_with_book (sym none)

-- so a look-up tells whether the row of the book is there
pub book_found : (trees : Trees) (key row : Row) (hit : Bool) → key ≡ Int (pos 1) ∷ []
    → Finds key (trees 0) row hit → hit ≡ has_book trees
unfolding has_book
book_found trees key row hit named finds =
    finds.is
    ∙ ap (λ (key : Row). finds.there && is_eq (prefix_cmp plain row key)) named
    ∙ found_first (from_key plain (Int (pos 1) ∷ []) (trees 0)) row finds.there
    (subst (λ (key : Row). IsFirst (from_key plain key (trees 0)) row finds.there) named finds.first)

-- trees that hold tables have it
pub book_held : (trees : Trees) (tables : Tables) → Holds trees tables → has_book trees ≡ true
unfolding has_book
book_held trees tables holds =
    ap (λ rows. begin_with_book (from_key plain (Int (pos 1) ∷ []) rows)) holds.book
    ∙ ap (λ o. begin_with_book (cond (is_lt o) [] (book_columns tables.book ∷ [])))
    (at_first tables.book)
    ∙ ap is_eq (at_first tables.book)

-- and trees with no row do not
pub book_absent : (trees : Trees) → HasNoRows trees → has_book trees ≡ false
unfolding has_book
book_absent trees none =
    ap (λ rows. begin_with_book (from_key plain (Int (pos 1) ∷ []) rows))
    (none.empty 0 (omega arith))

-- it is the only one, so another in its place is the only one
pub book_changed : (rows : List Row) (book : BookRow) (row : Row) → rows ≡ book_columns book ∷ []
    → rows_changed (book_columns book) row rows ≡ row ∷ []
book_changed rows book row is =
    ap (rows_changed (book_columns book) row) is
    ∙ ap (λ b. insert_entry plain row (cond b (book_columns book ∷ []) []))
    (ap (λ o. not (is_eq o)) (tied_itself (entry_cmp_total plain) (book_columns book)))

-- columns of the book's row say the book
book_said : (row : Row) (book : BookRow) (stored : StoredBook) → row ≡ book_columns book
    → column row 1 ≡ Int (pos stored.rule) → column row 2 ≡ Int (pos stored.adopted)
    → column row 3 ≡ Int (pos stored.held) → column row 4 ≡ Int (pos stored.amount)
    → book_entry stored ≡ book
book_said row book stored is rule_is adopted_is held_is amount_is =
    let rule = same_count _ book.rule (sym rule_is ∙ ap (λ r. column r 1) is) in
    let adopted = same_count _ book.adopted (sym adopted_is ∙ ap (λ r. column r 2) is) in
    let held = same_count _ book.held (sym held_is ∙ ap (λ r. column r 3) is) in
    let amount = same_count _ book.amount (sym amount_is ∙ ap (λ r. column r 4) is) in
    λ i. record { rule = rule i; adopted = adopted i; held = held i; amount = amount i }

-- after a look, the row of the book makes way for that of the book as a change makes it
pub book_changes : {S T : Type 0} (ghosts : Ghosts S) (change : BookRow → BookRow)
    (stored written : StoredBook) {old mid new : S} {key found made : Row} {hit : Bool}
    (result : Result T StoreError) → Quiet ghosts old mid
    → (IsClean (ghosts.view mid) → IsUnchanged (ghosts.view old) (ghosts.view mid))
    → (IsClean (ghosts.view mid) → Finds key ((ghosts.view old).trees 0) found hit)
    → key ≡ Int (pos 1) ∷ [] → Quiet ghosts mid new
    → OnErr result (IsClean (ghosts.view new)
    → KeepsCommitted (ghosts.view mid) (ghosts.view new))
    → OnOk result (IsClean (ghosts.view new)
    → ChangesRow (ghosts.view mid) (ghosts.view new) 0 found made)
    → column found 1 ≡ Int (pos stored.rule) → column found 2 ≡ Int (pos stored.adopted)
    → column found 3 ≡ Int (pos stored.held) → column found 4 ≡ Int (pos stored.amount)
    → made ≡ book_columns (book_entry written)
    → ((book : BookRow) → book_entry stored ≡ book → book_entry written ≡ change book)
    → Does result (state ghosts old) (state ghosts new) Always
    (λ tables. record tables { book = change tables.book })
book_changes ghosts change stored written {old = old} {key = key} {found = found} {made = made}
    {hit = hit} result look same finds key_is step kept done rule adopted held amount made_is
    changed =
    does_after ghosts result look (λ clean. only_looks (ghosts.view old) (same clean)) step kept
    done (λ clean rewritten tables holds when.
    let before = clean_before ghosts step clean in
    let there = book_there _ tables.book key found hit holds.book key_is (finds before) in
    let said = book_said found tables.book stored there.1 rule adopted held amount in
    holds_rows holds.placed
    (have_but 0 (rewrites_after_look {old = ghosts.view old} (same before) rewritten).others
    (rewritten.rows_now
    ∙ ap₂ (λ one rows. rows_changed one made rows) there.1
    (ap (λ (v : View). v.trees 0) (same before))
    ∙ book_changed ((ghosts.view old).trees 0) tables.book made holds.book
    ∙ ap (λ row. row ∷ []) (made_is ∙ ap book_columns (changed tables.book said)))
    (has_rows holds) refl))
