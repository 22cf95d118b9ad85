-- A sound file of books of an older form does not list the tables of a newer one.
use Rattle.std.proofs.Common.{◌≡◌, ℕ, Bool, true, false, not, List, [], ◌∷◌, ◌++◌, codes}
use Rattle.std.proofs.Common.{◌&&◌, ◌==◌, if◌then◌else◌, refl, sym, ap, ap₂, ◌∙◌, inl, inr, take}
use Rattle.std.proofs.lemmas.Bool.{and_parts, cases_Bool}
use Rattle.std.specs.Cmp.{Equal-is}
use Rattle.std.specs.Cmp.Lexicographic.{slice_cmp}
use Rattle.std.specs.FinMap.{nat_cmp-IsAntisymmetric, slice_cmp-IsAntisymmetric}
use Rattle.std.specs.Float.Ieee.{is_nan, lt}
use Rattle.std.specs.List.{list_all, list_any}
use Rattle.std.specs.Ordering.{is_eq, nat_cmp}
use Rattle.sqlite_pages.specs.PageMap.{PageMap}
use Rattle.sqlite_pool.specs.File.{in_use}
use Rattle.sqlite_store.specs.Catalog.{describes, is_about, is_present, may_stand, same_value}
use Rattle.sqlite_store.specs.Catalog.{has_no_pages as is_pageless, is_near, is_well_formed}
use Rattle.sqlite_store.specs.Catalog.{page_number}
use Rattle.sqlite_store.specs.Db.{rows_at, IsFile}
use Rattle.sqlite_store.specs.declared.catalog.Wanted.{Wanted}
use Rattle.sqlite_trees.specs.Sound.{begins, is_virtual, is_word, same_name}
use Rattle.sqlite_trees.specs.declared.store.Shape.TheVariants.{Table}
use Rattle.sqlite_value.proofs.OrderLemmas.{value_cmp-Text}
use Rattle.sqlite_value.specs.Order.{Row, column, value_cmp}
use Rattle.sqlite_value.specs.declared.value.Value.{Value}
use Rattle.sqlite_value.specs.declared.value.Value.TheVariants.{Blob, Int, Null, Real, Text}
use Rattle.book_trees.proofs.ListingLemmas.{rows_stand}
use Rattle.book_trees.specs.LedgerFiles.{page_size}
use Rattle.book_trees.specs.Listing.{lists, lists_books, lists_old_books, may_be_listed}
use Rattle.book_trees.specs.Schema.{books_schema, choice_table, credit_table, detail_table}
use Rattle.book_trees.specs.Schema.{journal_table, old_choice_table, old_record_table, old_schema}
use Rattle.book_trees.specs.Schema.{record_table, replaced_table, table_object}
use Rattle.book_trees.specs.Schema.{tables_with}
use Rattle.book_trees.specs.Texts.{credit_text, detail_text}
use Rattle.book_trees.specs.declared.schema.OlderForm.{OlderForm}
use Rattle.book_trees.specs.declared.schema.OlderForm.TheVariants.{First, Second}

-- a value that compares as a text is that text
text_same : (value : Value) (text : List ℕ) → same_value value (Text text) ≡ true → value ≡ Text text
unfolding value_cmp
text_same Null text same = absurd (cc)
text_same (Int n) text same = absurd (cc)
text_same (Real x) text same = absurd (cc)
text_same (Text other) text same =
    ap Text (slice_cmp-IsAntisymmetric nat_cmp-IsAntisymmetric other text
    ((Equal-is (slice_cmp nat_cmp other text)).0 (ap is_eq (sym (value_cmp-Text other text)) ∙ same)))
text_same (Blob bytes) text same = absurd (cc)

-- the columns of a row that lists a table of this name and text
record ListsTable (name sql : List ℕ) (row : Row) : Type 0 where
  kind : column row 1 ≡ Text (codes "table")
  called : column row 2 ≡ Text name
  text : column row 5 ≡ Text sql

listing_table : (name sql : List ℕ) (row : Row) → lists (table_object name sql) row ≡ true
    → ListsTable name sql row
listing_table name sql row is =
    let wanted : Wanted = table_object name sql in
    let kind = same_value (column row 1) (column wanted.row 0) in
    let called = same_value (column row 2) (column wanted.row 1) in
    let about = same_value (column row 3) (column wanted.row 2) in
    let text = same_value (column row 5) (column wanted.row 3) in
    let all = and_parts (kind && called && about) text is in
    let three = and_parts (kind && called) about all.0 in
    let two = and_parts kind called three.0 in
    record {
      kind = text_same (column row 1) _ two.0;
      called = text_same (column row 2) _ two.1;
      text = text_same (column row 5) _ all.1;
    }

-- a tree of another name does not describe a row
not_named : (here kind about text : Bool) (value wanted : Value) → same_value value wanted ≡ false
    → (here && kind && same_value value wanted && about && text) ≡ false
not_named true true about text value wanted other = rw other
not_named true false about text value wanted other = refl
not_named false kind about text value wanted other = refl

not_described : (wanted : Wanted) (row : Row)
    → same_value (column row 2) (column wanted.row 1) ≡ false → describes wanted row ≡ false
unfolding describes
not_described wanted row other =
    not_named (is_present wanted.shape) (same_value (column row 1) (column wanted.row 0))
    (is_about wanted row) (same_value (column row 5) (column wanted.row 3)) (column row 2)
    (column wanted.row 1) other

is_false : (b : Bool) → not b ≡ true → b ≡ false
is_false true not_so = absurd (cc)
is_false false not_so = refl

-- nor does any of trees of other names
abbrev have_other_names : Value → List Wanted → Bool
have_other_names name = list_all (λ wanted. not (same_value name (column wanted.row 1)))

none_named : (name : Value) (schema : List Wanted) → have_other_names name schema ≡ true
    → (row : Row) → column row 2 ≡ name → list_any (λ wanted. describes wanted row) schema ≡ false
none_named name [] all row is = refl
none_named name (wanted ∷ schema) all row is =
    let both = and_parts (not (same_value name (column wanted.row 1))) (have_other_names name schema)
    all in
    let other : same_value (column row 2) (column wanted.row 1) ≡ false =
    ap (λ (value : Value). same_value value (column wanted.row 1)) is ∙ is_false _ both.0 in
    rw (not_described wanted row other) (none_named name schema both.1 row is)

not_between : (first second third : Bool) → second ≡ false → (first && second && third) ≡ false
not_between true second third not_so = rw not_so
not_between false second third not_so = refl

-- what is asked of a table that is not there: it has pages, and no tree of the schema has its name
record IsMissing (name sql : List ℕ) (schema : List Wanted) : Type 0 where
  real : is_virtual (Text (codes "table")) (Text sql) ≡ false
  other : have_other_names (Text name) schema ≡ true

module _ (name sql : List ℕ) (schema : List Wanted) (missing : IsMissing name sql schema) where
  has_pages : (row : Row) → ListsTable name sql row → is_pageless row ≡ false
  unfolding is_pageless
  has_pages row table =
      not_between (page_number (column row 4) == 0) (is_virtual (column row 1) (column row 5))
      (not (is_word (codes "index") (column row 1)))
      (ap₂ is_virtual table.kind table.text ∙ missing.real)

  -- so it does not stand in a sound file of the schema
  never_stands : (row : Row) → lists (table_object name sql) row ≡ true
      → may_stand schema row ≡ true → ⊥
  unfolding may_stand
  never_stands row is stands =
      let table = listing_table name sql row is in
      let both = and_parts (is_well_formed row) (if list_any (λ wanted. describes wanted row) schema
      then true else (is_pageless row
      && not (list_any (λ wanted. is_near wanted row) schema))) stands in
      let none = none_named (Text name) schema missing.other row table.called in
      let told = rw (none, has_pages row table) at both.1 in
      absurd (cc)

  none_stand : (rows : List Row) → list_all (may_stand schema) rows ≡ true
      → list_any (lists (table_object name sql)) rows ≡ true → ⊥
  none_stand [] all any = absurd (cc)
  none_stand (row ∷ rows) all any =
      let both = and_parts (may_stand schema row) (list_all (may_stand schema) rows) all in
      elim (cases_Bool (lists (table_object name sql) row)) [
        | inl here ↦ never_stands row here both.0
        | inr other ↦ none_stand rows both.1 (rw other at any)
      ]

  -- a sound file of the schema does not list it
  not_listed : (pages : PageMap) → IsFile page_size schema pages
      → list_any (lists (table_object name sql))
      (rows_at page_size (in_use page_size pages) Table 1) ≡ true → ⊥
  not_listed pages file =
      none_stand (rows_at page_size (in_use page_size pages) Table 1)
      (rows_stand page_size schema pages file)

-- a list of tables of which one behind others is listed
one_listed : (before : List Wanted) (one : Wanted) (behind : List Wanted) (rows : List Row)
    → list_all (λ wanted. list_any (lists wanted) rows) (before ++ one ∷ behind) ≡ true
    → list_any (lists one) rows ≡ true
one_listed [] one behind rows all = (and_parts (list_any (lists one) rows) _ all).0
one_listed (wanted ∷ before) one behind rows all =
    one_listed before one behind rows (and_parts (list_any (lists wanted) rows) _ all).1

-- rows that list books list credits,
credits_listed : (rows : List Row) → lists_books rows ≡ true
    → list_any (lists credit_table) rows ≡ true
unfolding books_schema
credits_listed rows books =
    let tables = tables_with record_table choice_table in
    one_listed (take 11 tables) credit_table (replaced_table ∷ journal_table ∷ []) rows
    (and_parts (list_all (λ wanted. list_any (lists wanted) rows) tables)
    (list_all (may_be_listed tables) rows) books).0

-- which no older form has,
no_credits : (form : OlderForm) → IsMissing (codes "credit") credit_text (old_schema form)
unfolding old_schema begins same_name value_cmp is_nan lt
no_credits First = record { real = refl; other = refl }
no_credits Second = record { real = refl; other = refl }

-- and rows that list books of the second form list details,
details_listed : (rows : List Row) → lists_old_books Second rows ≡ true
    → list_any (lists detail_table) rows ≡ true
unfolding old_schema
details_listed rows second =
    let tables = tables_with old_record_table old_choice_table in
    one_listed (take 10 tables) detail_table [] rows
    (and_parts (list_all (λ wanted. list_any (lists wanted) rows) (take 11 tables))
    (list_all (may_be_listed (take 11 tables)) rows) second).0

-- which the first has not
no_details : IsMissing (codes "detail") detail_text (old_schema First)
unfolding old_schema begins same_name value_cmp is_nan lt
no_details = record { real = refl; other = refl }

-- a sound file of an older form does not list books
pub old_is_not_this : (form : OlderForm) (pages : PageMap)
    → IsFile page_size (old_schema form) pages
    → lists_books (rows_at page_size (in_use page_size pages) Table 1) ≡ true → ⊥
old_is_not_this form pages file books =
    not_listed (codes "credit") credit_text (old_schema form) (no_credits form) pages file
    (credits_listed (rows_at page_size (in_use page_size pages) Table 1) books)

-- and one of the first does not list those of the second
pub first_is_not_second : (pages : PageMap) → IsFile page_size (old_schema First) pages
    → lists_old_books Second (rows_at page_size (in_use page_size pages) Table 1) ≡ true → ⊥
first_is_not_second pages file second =
    not_listed (codes "detail") detail_text (old_schema First) no_details pages file
    (details_listed (rows_at page_size (in_use page_size pages) Table 1) second)
