-- The list that a sound file of books has of itself.
use Rattle.std.proofs.Common.{◌≡◌, ◌≢◌, ◌<◌, ◌≤◌, ℕ, suc, pos, Bool, true, false, not, codes}
use Rattle.std.proofs.Common.{◌&&◌, ◌||◌, ◌==◌, if◌then◌else◌, List, [], ◌∷◌, length, map}
use Rattle.std.proofs.Common.{Option, None, slice_index, IsSome, refl, ap, subst, inl, inr, arith}
use Rattle.std.specs.List.{list_all, list_any}
use Rattle.std.proofs.lemmas.Bool.{and_parts, cases_Bool, or_right}
use Rattle.std.proofs.lemmas.Bool.Decides.{nat_tests}
use Rattle.sqlite_btree.proofs.StoredLemmas.{stored_root_live}
use Rattle.sqlite_btree.specs.Chain.{Layout}
use Rattle.sqlite_btree.specs.Stored.{IsLaidIn}
use Rattle.sqlite_pages.specs.PageMap.{PageMap}
use Rattle.sqlite_pool.specs.File.{in_use, unlocked, IsSoundFile}
use Rattle.sqlite_pool.specs.FreeList.{live}
use Rattle.sqlite_store.specs.Catalog.{describes, is_about, is_well_formed, may_stand, root_in}
use Rattle.sqlite_store.specs.Catalog.{has_no_pages as is_pageless, is_page_number, is_near}
use Rattle.sqlite_store.specs.Catalog.{fits_shape, is_listed_once}
use Rattle.sqlite_store.specs.Catalog.{is_present, page_number, same_value, shape_at}
use Rattle.sqlite_store.specs.Db.{rows_at, roots_of, IsFile, IsKept}
use Rattle.sqlite_trees.specs.Sound.{are_in_order, fits_kind, head_at, is_virtual, is_word}
use Rattle.sqlite_trees.specs.View.{is_int}
use Rattle.sqlite_trees.specs.declared.store.Shape.TheVariants.{Index, Table}
use Rattle.sqlite_value.specs.Keys.{plain}
use Rattle.sqlite_store.specs.declared.catalog.Wanted.{Wanted}
use Rattle.sqlite_value.specs.Order.{Row, column}
use Rattle.sqlite_value.specs.declared.value.Value.{Value}
use Rattle.sqlite_value.specs.declared.value.Value.TheVariants.{Int}
use Rattle.book_trees.specs.LedgerFiles.{page_size}
use Rattle.book_trees.specs.Listing.{has_no_pages, lists, lists_books, lists_exactly}
use Rattle.book_trees.specs.Listing.{lists_old_books, may_be_listed}
use Rattle.book_trees.specs.Schema.{books_schema, old_schema}
use Rattle.book_trees.specs.declared.schema.OlderForm.{OlderForm}
use Rattle.book_trees.proofs.Trees.{book_indexes, old_indexes}

-- a test of what elements map to
pub any_mapped : {X Y : Type 0} (test : Y → Bool) (f : X → Y) (xs : List X)
    → list_any (λ x. test (f x)) xs ≡ list_any test (map f xs)
any_mapped test f [] = refl
any_mapped test f (x ∷ xs) = ap (λ b. test (f x) || b) (any_mapped test f xs)

-- the same for all of them
pub all_mapped : {X Y : Type 0} (test : Y → Bool) (f : X → Y) (xs : List X)
    → list_all (λ x. test (f x)) xs ≡ list_all test (map f xs)
all_mapped test f [] = refl
all_mapped test f (x ∷ xs) = ap (λ b. test (f x) && b) (all_mapped test f xs)

-- a weaker test is passed where one is
any_weaker : {X : Type 0} (p q : X → Bool) → ((x : X) → p x ≡ true → q x ≡ true)
    → (xs : List X) → list_any p xs ≡ true → list_any q xs ≡ true
any_weaker p q weaker [] passed = absurd (cc)
any_weaker p q weaker (x ∷ xs) passed =
    elim (cases_Bool (p x)) [
      | inl here ↦ rw (weaker x here)
      | inr other ↦
          or_right (q x) (list_any q xs) (any_weaker p q weaker xs (rw other at passed))
    ]

-- the same for all of a list
all_weaker : {X : Type 0} (p q : X → Bool) → ((x : X) → p x ≡ true → q x ≡ true)
    → (xs : List X) → list_all p xs ≡ true → list_all q xs ≡ true
all_weaker p q weaker [] passed = refl
all_weaker p q weaker (x ∷ xs) passed =
    let both = and_parts (p x) (list_all p xs) passed in
    rw (weaker x both.0) (all_weaker p q weaker xs both.1)

-- the last four of five tests
last_four : (there kind name table text : Bool)
    → (there && kind && name && table && text) ≡ true → (kind && name && table && text) ≡ true
last_four true kind name table text passed = passed
last_four false kind name table text passed = absurd (cc)

-- a row that describes a tree lists it
described : (wanted : Wanted) (row : Row) → describes wanted row ≡ true → lists wanted row ≡ true
unfolding describes is_about
described wanted row is =
    last_four (is_present wanted.shape) (same_value (column row 1) (column wanted.row 0))
    (same_value (column row 2) (column wanted.row 1))
    (same_value (column row 3) (column wanted.row 2))
    (same_value (column row 5) (column wanted.row 3)) is

-- the page number of nothing is 0
no_page : (value : Value) → is_page_number value ≡ true → (page_number value == 0) ≡ true
    → same_value value (Int (pos 0)) ≡ true
no_page value number none =
    let nothing : page_number value ≡ 0 = grind (arith, nat_tests) in
    let same = same_value value (Int (pos (page_number value))) in
    let both = and_parts (is_int value) same number in
    subst (λ (n : ℕ). same_value value (Int (pos n)) ≡ true) nothing both.1

-- a row that may stand in a sound file may be listed
stands : (schema : List Wanted) (row : Row) → may_stand schema row ≡ true
    → may_be_listed schema row ≡ true
unfolding may_stand is_well_formed is_pageless
stands schema row may =
    let listed = list_any (λ wanted. lists wanted row) schema in
    let both = and_parts (is_well_formed row) (if list_any (λ wanted. describes wanted row) schema
    then true else (is_pageless row
    && not (list_any (λ wanted. is_near wanted row) schema))) may in
    elim (cases_Bool (list_any (λ wanted. describes wanted row) schema)) [
      | inl one ↦ rw (any_weaker (λ wanted. describes wanted row) (λ wanted. lists wanted row)
          (λ wanted is. described wanted row is) schema one)
      | inr other ↦
          let pageless = (and_parts (is_pageless row) (not (list_any (λ wanted. is_near wanted row)
          schema)) (rw other at both.1)).0 in
          let none = (and_parts (page_number (column row 4) == 0) (is_virtual (column row 1)
          (column row 5)) (and_parts ((page_number (column row 4) == 0) && is_virtual
          (column row 1) (column row 5)) (not (is_word (codes "index") (column row 1)))
          pageless).0).0 in
          let number = (and_parts ((length row == 6) && fits_kind (column row 1) (column row 2)
          (column row 3) (column row 5)) (is_page_number (column row 4)) both.0).1 in
          or_right listed (has_no_pages row) (no_page (column row 4) number none)
    ]

-- a tree with a root is listed
rooted : (wanted : Wanted) (rows : List Row) → root_in rows wanted ≢ 0
    → list_any (lists wanted) rows ≡ true
rooted wanted [] root = absurd (root refl)
rooted wanted (row ∷ rows) root =
    elim (cases_Bool (describes wanted row)) [
      | inl here ↦ rw (described wanted row here)
      | inr other ↦
          or_right (lists wanted row) (list_any (lists wanted) rows)
          (rooted wanted rows (rw other at root))
    ]

-- so are all, if each has a root
all_rooted : (rows : List Row) (schema : List Wanted)
    → ((tree : ℕ) → tree < length schema → slice_index (map (root_in rows) schema) tree ≢ 0)
    → list_all (λ wanted. list_any (lists wanted) rows) schema ≡ true
all_rooted rows [] roots = refl
all_rooted rows (wanted ∷ schema) roots =
    rw (rooted wanted rows (roots 0 (omega arith)))
    (all_rooted rows schema (λ tree below. roots (suc tree) (omega arith)))

-- what remains after two tests
some_behind : {X : Type 0} (used locked : Bool) (x : Option X)
    → IsSome (if used then (if locked then None else x) else None) → IsSome x
some_behind true false x there = there
some_behind true true x there = absurd (cc)
some_behind false locked x there = absurd (cc)

-- a page in use has a number above 0
page_above : (size : ℕ) (pages : PageMap) → IsSoundFile size pages → (n : ℕ)
    → IsSome (in_use size pages n) → 1 ≤ n
unfolding in_use live unlocked
page_above size pages sound n used =
    ((sound.counted n).0 (some_behind _ _ (pages n) used)).0

-- the root of an index is a page in use
root_above : (size root : ℕ) (pages : PageMap) (layout : Layout) → IsSoundFile size pages
    → IsLaidIn layout (in_use size pages) → IsKept size layout (Index plain) root → 1 ≤ root
root_above size root pages layout sound laid kept =
    page_above size pages sound root (rw (laid.nodes root (stored_root_live kept.1.stored)))

-- the first of four tests
first_of_four : (a b c d : Bool) → (a && b && c && d) ≡ true → a ≡ true
first_of_four true b c d passed = refl
first_of_four false b c d passed = absurd (cc)

-- rows of a sound file of some schema may stand there
pub rows_stand : (size : ℕ) (schema : List Wanted) (pages : PageMap) → IsFile size schema pages
    → list_all (may_stand schema) (rows_at size (in_use size pages) Table 1) ≡ true
rows_stand size schema pages file =
    let rows = rows_at size (in_use size pages) Table 1 in
    first_of_four (list_all (may_stand schema) rows) (list_all (is_listed_once rows) schema)
    (list_all fits_shape schema) (are_in_order [] (map (head_at 1) rows)) file.db.known

-- the rows of a sound file list its trees, if each is an index,
pub sound_lists : (size : ℕ) (schema : List Wanted) (pages : PageMap) → IsFile size schema pages
    → ((tree : ℕ) → tree < length schema → shape_at schema tree ≡ Index plain)
    → lists_exactly schema (rows_at size (in_use size pages) Table 1) ≡ true
unfolding roots_of
sound_lists size schema pages file shapes =
    let rows = rows_at size (in_use size pages) Table 1 in
    let trees = file.db.trees in
    let all = all_rooted rows schema (λ tree below none.
    let kept = rw (shapes tree below) at (trees.kept (suc tree)) in
    let above = root_above size _ pages _ file.sound (trees.laid (suc tree)) kept in
    absurd (omega arith)) in
    let only : list_all (may_be_listed schema) rows ≡ true =
    all_weaker (may_stand schema) (may_be_listed schema) (stands schema) rows
    (rows_stand size schema pages file) in
    rw all only

-- the rows of a sound file of books of an older form list those
pub old_listed : (form : OlderForm) (pages : PageMap) → IsFile page_size (old_schema form) pages
    → lists_old_books form (rows_at page_size (in_use page_size pages) Table 1) ≡ true
old_listed form pages file = sound_lists page_size (old_schema form) pages file (old_indexes form)

-- so the rows of a sound file of books list them
pub books_listed : (pages : PageMap) → IsFile page_size books_schema pages
    → lists_books (rows_at page_size (in_use page_size pages) Table 1) ≡ true
books_listed pages file = sound_lists page_size books_schema pages file book_indexes
