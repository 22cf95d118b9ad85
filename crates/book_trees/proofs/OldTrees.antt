-- The trees that books of an older form get.
use Rattle.std.proofs.Common.{◌≡◌, ◌≢◌, ◌≤◌, ◌<◌, ◌==◌, ◌∙◌, ℕ, suc, List, [], ◌∷◌, Bool, true, false, not}
use Rattle.std.proofs.Common.{true≢false, codes, ap, subst, sym, refl, arith, inl, inr, IsTrue}
use Rattle.std.proofs.Common.{if◌then◌else◌}
use Rattle.std.proofs.lemmas.Bool.{and_parts, cases_Bool}
use Rattle.std.proofs.lemmas.Bool.Decides.{nat_tests}
use Rattle.std.specs.Cmp.Lexicographic.{slice_cmp}
use Rattle.std.specs.Int.{bit_at}
use Rattle.std.specs.List.{AllByRecursion, list_all}
use Rattle.std.specs.Ordering.{is_eq, match_ordering, nat_cmp}
use Rattle.std.specs.declared.cmp.Ordering.TheVariants.{Less, Equal, Greater}
use Rattle.sqlite_store.specs.Catalog.{wanted_of}
use Rattle.sqlite_store.specs.Listed.{is_listed}
use Rattle.sqlite_store.specs.Listing.{listed_from}
use Rattle.sqlite_store.specs.declared.catalog.Wanted.{Wanted}
use Rattle.sqlite_trees.specs.Objects.{Creates, IsFreeFor, IsListed, MayRelist, Relists, catalog_tree}
use Rattle.sqlite_trees.specs.Objects.{is_frozen, number_in, object_row, row_for, shape_code}
use Rattle.sqlite_trees.specs.Objects.{version_tree}
use Rattle.sqlite_trees.specs.Tree.{put_row, rowid, with_tree}
use Rattle.sqlite_trees.specs.View.{View}
use Rattle.sqlite_trees.specs.declared.schema.Object.{Object}
use Rattle.sqlite_trees.specs.declared.store.Shape.{Shape}
use Rattle.sqlite_trees.specs.declared.store.Shape.TheVariants.{Absent, Index}
use Rattle.sqlite_value.specs.Keys.{plain}
use Rattle.sqlite_value.specs.Order.{Row, column, value_cmp}
use Rattle.sqlite_value.specs.declared.value.Value.{Value}
use Rattle.sqlite_value.specs.declared.value.Value.TheVariants.{Blob, Int, Null, Real, Text}
use Rattle.tree_tables.specs.Holds.{tree_count}
use Rattle.book_trees.proofs.Trees.{few_tables, old_only}
use Rattle.book_trees.specs.OldForms.{AddsTables, HasOldTrees, HasGrown, IsFree, ListMore}
use Rattle.book_trees.specs.OldForms.{GrowsOn, HasGrownTo, form_by}
use Rattle.book_trees.specs.Schema.{choice_table, credit_table, detail_table, old_schema}
use Rattle.book_trees.specs.Schema.{journal_table, record_table, replaced_table, table_count}
use Rattle.book_trees.specs.Schema.{table_object}
use Rattle.book_trees.specs.Texts.{choice_text, credit_text, detail_text, journal_text}
use Rattle.book_trees.specs.Texts.{record_text, replaced_text}
use Rattle.book_trees.specs.declared.schema.OlderForm.{OlderForm}
use Rattle.book_trees.specs.declared.schema.OlderForm.TheVariants.{First, Second}

-- ---- names that are listed

-- whether a value is a name
abbrev is_name : List ℕ → Value → Bool
is_name name Null = false
is_name name (Int n) = false
is_name name (Real x) = false
is_name name (Text text) = is_eq (slice_cmp nat_cmp text name)
is_name name (Blob bytes) = false

-- what is another name is not that name
other_name : (name : List ℕ) → is_name name (Text name) ≡ true → (value : Value)
    → is_name name value ≡ false → value ≢ Text name
other_name name own value other same =
    true≢false (sym own ∙ sym (ap (is_name name) same) ∙ other)

-- no row has the name
abbrev have_others : List ℕ → List Row → Bool
have_others name = list_all (λ (row : Row). not (is_name name (column row 2)))

is_false : (b : Bool) → not b ≡ true → b ≡ false
is_false true not_so = absurd (cc)
is_false false not_so = refl

none_named : (name : List ℕ) → is_name name (Text name) ≡ true → (rows : List Row)
    → have_others name rows ≡ true
    → AllByRecursion (λ (row : Row). column row 2 ≢ Text name) rows
none_named name own [] all = tt
none_named name own (row ∷ rows) all =
    let both = and_parts (not (is_name name (column row 2))) (have_others name rows) all in (
      other_name name own (column row 2) (is_false _ both.0),
      none_named name own rows both.1,
    )

-- the trees of older forms do not have these names
no_credit : (form : OlderForm) → have_others (codes "credit") (listed_from 0 (old_schema form)) ≡ true
unfolding old_schema
no_credit First = refl
no_credit Second = refl

no_replaced : (form : OlderForm)
    → have_others (codes "replaced") (listed_from 0 (old_schema form)) ≡ true
unfolding old_schema
no_replaced First = refl
no_replaced Second = refl

no_journal : (form : OlderForm)
    → have_others (codes "journal") (listed_from 0 (old_schema form)) ≡ true
unfolding old_schema
no_journal First = refl
no_journal Second = refl

-- nor those of the first the name of details
no_detail : have_others (codes "detail") (listed_from 0 (old_schema First)) ≡ true
unfolding old_schema
no_detail = refl

-- what holds of rows and of one more holds of all where that is put among them
all_put : (P : Row → Type 0) (new : Row) (rows : List Row) → P new → AllByRecursion P rows
    → AllByRecursion P (put_row new rows)
all_put P new [] one all = (one, tt)
all_put P new (row ∷ rows) one all =
    elim (value_cmp (rowid row) (rowid new)) as (λ o.
    AllByRecursion P (match_ordering o (row ∷ put_row new rows) (new ∷ rows) (new ∷ row ∷ rows))) [
      | Less ↦ (all.0, all_put P new rows one all.1)
      | Equal ↦ (one, all.1)
      | Greater ↦ (one, all)
    ]

-- a number is itself, and that of a table is not that of the list
same : (n : ℕ) → (n == n) ≡ true
same n = grind (arith, nat_tests)

apart : (tree other : ℕ) → tree ≢ other → (tree == other) ≡ false
apart tree other differs = grind (arith, nat_tests, differs)

low : (tree : ℕ) → tree < tree_count → (tree == catalog_tree) ≡ false
low tree small = apart tree catalog_tree (λ is. absurd (omega (arith, small, is)))

differs_from : (tree other : ℕ) → (tree == other) ≡ false → tree ≢ other
differs_from tree other not_so is =
    true≢false (sym (ap (λ (n : ℕ). n == other) is ∙ same other) ∙ not_so)

-- ---- an object of a table

module _ (name sql : List ℕ) (object : Object) (is : wanted_of object ≡ table_object name sql) where
  shape_is : object.shape ≡ Index plain
  shape_is = ap (λ (wanted : Wanted). wanted.shape) is

  name_is : Text object.name.now ≡ Text name
  name_is = ap (λ (wanted : Wanted). column wanted.row 1) is

  reals_is : object.reals ≡ 0
  reals_is = ap (λ (wanted : Wanted). wanted.reals) is

  -- there is room for it
  room_for : (tree : ℕ) (view : View) → tree < tree_count → IsTrue view.is_numbered
      → view.shape tree ≡ Absent → IsFree name view → IsFreeFor view tree object
  room_for tree view small numbered none free = record {
    numbered = numbered;
    low = omega (arith, small);
    unused = none;
    shaped = λ absent. absurd (let there = shape_is in cc);
    thawed = ap is_frozen shape_is;
    unnamed = subst (λ (value : Value). AllByRecursion (λ (row : Row). column row 2 ≢ value)
        (view.trees catalog_tree)) (sym name_is) free;
  }

  -- Where it was made,
  module _ (tree : ℕ) (old new : View) (creates : Creates old new tree object) where
    shape_own : new.shape tree ≡ Index plain
    shape_own =
        ap (λ (v : View). v.shape tree) creates.is
        ∙ ap (λ b. if b then object.shape else old.shape tree) (same tree) ∙ shape_is

    shape_other : (other : ℕ) → other ≢ tree → new.shape other ≡ old.shape other
    shape_other other differs =
        ap (λ (v : View). v.shape other) creates.is
        ∙ ap (λ b. if b then object.shape else old.shape other) (apart other tree differs)

    reals_other : (other : ℕ) → other ≢ tree → new.reals other ≡ old.reals other
    reals_other other differs =
        ap (λ (v : View). v.reals other) creates.is
        ∙ ap (λ b. if b then object.reals else old.reals other) (apart other tree differs)

    rows_own : tree < tree_count → new.trees tree ≡ []
    rows_own small =
        ap (λ (v : View). v.trees tree) creates.is
        ∙ ap (λ b. if b then put_row (object_row tree object) (old.trees catalog_tree)
        else with_tree old.trees tree [] tree) (low tree small)
        ∙ ap (λ b. if b then [] else old.trees tree) (same tree)

    rows_other : (other : ℕ) → other < tree_count → other ≢ tree → new.trees other ≡ old.trees other
    rows_other other small differs =
        ap (λ (v : View). v.trees other) creates.is
        ∙ ap (λ b. if b then put_row (object_row tree object) (old.trees catalog_tree)
        else with_tree old.trees tree [] other) (low other small)
        ∙ ap (λ b. if b then [] else old.trees other) (apart other tree differs)

    list_now : new.trees catalog_tree ≡ put_row (object_row tree object) (old.trees catalog_tree)
    list_now =
        ap (λ (v : View). v.trees catalog_tree) creates.is
        ∙ ap (λ b. if b then put_row (object_row tree object) (old.trees catalog_tree)
        else with_tree old.trees tree [] catalog_tree) (same catalog_tree)

    -- other names are free as before
    still_free : (other : List ℕ) → Text name ≢ Text other → IsFree other old → IsFree other new
    still_free other differs free =
        subst (AllByRecursion (λ (row : Row). column row 2 ≢ Text other)) (sym list_now)
        (all_put (λ (row : Row). column row 2 ≢ Text other) (object_row tree object)
        (old.trees catalog_tree) (λ is. differs (sym name_is ∙ is)) free)

-- ---- the details

-- the form is told by the shape of the details
pub form_is : (view : View) (old : HasOldTrees view) → old.form ≡ form_by (view.shape 10)
form_is view old = by old.form old.shapes old.none
  where
    by : (form : OlderForm) → ((tree : ℕ) → tree < table_count form → view.shape tree ≡ Index plain)
        → ((tree : ℕ) → table_count form ≤ tree → tree < tree_count → view.shape tree ≡ Absent)
        → form ≡ form_by (view.shape 10)
    by First shapes none = ap form_by (sym (none 10 (omega arith) (omega arith)))
    by Second shapes none = ap form_by (sym (shapes 10 (omega arith)))

-- names that older forms do not have are free
credit_free : (view : View) (old : HasOldTrees view) → IsFree (codes "credit") view
credit_free view old =
    subst (AllByRecursion (λ (row : Row). column row 2 ≢ Text (codes "credit"))) (sym old.listed)
    (none_named (codes "credit") refl (listed_from 0 (old_schema old.form)) (no_credit old.form))

replaced_free : (view : View) (old : HasOldTrees view) → IsFree (codes "replaced") view
replaced_free view old =
    subst (AllByRecursion (λ (row : Row). column row 2 ≢ Text (codes "replaced"))) (sym old.listed)
    (none_named (codes "replaced") refl (listed_from 0 (old_schema old.form)) (no_replaced old.form))

journal_free : (view : View) (old : HasOldTrees view) → IsFree (codes "journal") view
journal_free view old =
    subst (AllByRecursion (λ (row : Row). column row 2 ≢ Text (codes "journal"))) (sym old.listed)
    (none_named (codes "journal") refl (listed_from 0 (old_schema old.form)) (no_journal old.form))

-- in the first there is room for details,
pub room_for_details : (object : Object) → wanted_of object ≡ detail_table → (view : View)
    → HasOldTrees view → form_by (view.shape 10) ≡ First → IsFreeFor view 10 object
room_for_details object is view old first =
    let form : old.form ≡ First = form_is view old ∙ first in
    room_for (codes "detail") detail_text object is 10 view (omega arith) old.numbered
    (old.none 10 (subst (λ (form : OlderForm). table_count form ≤ 10) (sym form) (omega arith))
    (omega arith))
    (subst (AllByRecursion (λ (row : Row). column row 2 ≢ Text (codes "detail")))
    (sym (old.listed ∙ ap (λ (form : OlderForm). listed_from 0 (old_schema form)) form))
    (none_named (codes "detail") refl (listed_from 0 (old_schema First)) no_detail))

-- and with them it has the trees of the second,
pub details_made : (object : Object) → wanted_of object ≡ detail_table → (before now : View)
    → Creates before now 10 object → (old : HasOldTrees before)
    → form_by (before.shape 10) ≡ First → HasGrown 11 old.form before now
details_made object is before now creates old first =
    let form : old.form ≡ First = form_is before old ∙ first in
    let few : (tree : ℕ) → tree < table_count old.form → tree < 10 =
    λ tree. subst (λ (form : OlderForm). tree < table_count form → tree < 10) (sym form)
    (λ small. small) in
    record {
      numbered = subst IsTrue (sym (ap (λ (v : View). v.is_numbered) creates.is)) old.numbered;
      shapes = λ tree small. elim (cases_Bool (tree == 10)) [
        | inl last ↦
            let ten : tree ≡ 10 = grind (arith, nat_tests) in
            subst (λ (tree : ℕ). now.shape tree ≡ Index plain) (sym ten)
            (shape_own (codes "detail") detail_text object is 10 before now creates)
        | inr other ↦
            let below : tree < 10 = grind (arith, nat_tests) in
            shape_other (codes "detail") detail_text object is 10 before now creates tree
            (differs_from tree 10 other)
            ∙ old.shapes tree (subst (λ (form : OlderForm). tree < table_count form) (sym form)
            below)
      ];
      absent = λ tree past small.
          shape_other (codes "detail") detail_text object is 10 before now creates tree
          (λ is. absurd (omega (arith, past, is)))
          ∙ old.none tree (let few = few_tables old.form in omega (arith, few, past)) small;
      no_floats = reals_other (codes "detail") detail_text object is 10 before now creates 8
          (λ is. absurd (cc)) ∙ old.no_floats;
      plain_records = reals_other (codes "detail") detail_text object is 10 before now creates 3
          (λ is. absurd (cc)) ∙ old.plain_records;
      credit_free = λ within. still_free (codes "detail") detail_text object is 10 before now creates
          (codes "credit") (other_name (codes "credit") refl (Text (codes "detail")) refl)
          (credit_free before old);
      replaced_free = λ within. still_free (codes "detail") detail_text object is 10 before now
          creates (codes "replaced") (other_name (codes "replaced") refl (Text (codes "detail")) refl)
          (replaced_free before old);
      journal_free = λ within. still_free (codes "detail") detail_text object is 10 before now creates
          (codes "journal") (other_name (codes "journal") refl (Text (codes "detail")) refl)
          (journal_free before old);
      trees = λ tree small.
          let below = few tree small in
          rows_other (codes "detail") detail_text object is 10 before now creates tree
          (omega (arith, below)) (λ is. absurd (omega (arith, below, is)));
      empty = λ tree past small.
          let ten : tree ≡ 10 = (let past = subst (λ (form : OlderForm). table_count form ≤ tree) form past
          in omega (arith, past, small)) in
          subst (λ (tree : ℕ). now.trees tree ≡ []) (sym ten)
          (rows_own (codes "detail") detail_text object is 10 before now creates (omega arith));
      committed = ap (λ (v : View). v.committed) creates.is;
      is_open = ap (λ (v : View). v.is_open) creates.is;
      broken = ap (λ (v : View). v.is_broken) creates.is;
    }

-- which the second has at once
pub details_there : (view : View) (old : HasOldTrees view) → form_by (view.shape 10) ≡ Second
    → HasGrown 11 old.form view view
details_there view old second =
    let form : old.form ≡ Second = form_is view old ∙ second in
    record {
      numbered = old.numbered;
      shapes = λ tree small. old.shapes tree
          (subst (λ (form : OlderForm). tree < table_count form) (sym form) small);
      absent = λ tree past small.
          old.none tree (let few = few_tables old.form in omega (arith, few, past)) small;
      no_floats = old.no_floats;
      plain_records = old.plain_records;
      credit_free = λ within. credit_free view old;
      replaced_free = λ within. replaced_free view old;
      journal_free = λ within. journal_free view old;
      trees = λ tree small. refl;
      empty = λ tree past small.
          let eleven : 11 ≤ tree = subst (λ (form : OlderForm). table_count form ≤ tree) form past in
          absurd (omega (arith, eleven, small));
      committed = refl;
      is_open = refl;
      broken = refl;
    }

-- ---- the choices, the records, the credits, the tariffs that were replaced, and the journal

-- A table that is listed anew, under its name.
module _ (name sql : List ℕ) (object : Object) (is : wanted_of object ≡ table_object name sql)
    (tree : ℕ)
  where
    -- it may be listed so where none of its columns becomes a float,
    may_list : (form : OlderForm) (before view : View) → HasGrown 11 form before view → tree < 11
        → view.reals tree ≡ 0 → MayRelist view (tree, object)
    may_list form before view grown below plain = record {
      low = omega (arith, below);
      shaped = grown.shapes tree below ∙ sym (shape_is name sql object is);
      present = λ absent. absurd (let there = shape_is name sql object is in cc);
      thawed = ap is_frozen (shape_is name sql object is);
      typed = λ c differs. absurd (differs (ap (λ (n : ℕ). bit_at n c)
          (plain ∙ sym (reals_is name sql object is))));
    }

    module _ (old new : View) (lists : Relists old new ((tree, object) ∷ [])) where
      list_then : new.trees catalog_tree
          ≡ put_row (object_row tree object) (old.trees catalog_tree)
      list_then =
          ap (λ (v : View). v.trees catalog_tree) lists.is
          ∙ ap (λ b. if b then put_row (object_row tree object) (old.trees catalog_tree)
          else old.trees catalog_tree) (same catalog_tree)

      rows_then : (one : ℕ) → one < tree_count → new.trees one ≡ old.trees one
      rows_then one small =
          ap (λ (v : View). v.trees one) lists.is
          ∙ ap (λ b. if b then put_row (object_row tree object) (old.trees catalog_tree)
          else old.trees one) (low one small)

      free_then : (other : List ℕ) → Text name ≢ Text other → IsFree other old → IsFree other new
      free_then other differs free =
          subst (AllByRecursion (λ (row : Row). column row 2 ≢ Text other)) (sym list_then)
          (all_put (λ (row : Row). column row 2 ≢ Text other) (object_row tree object)
          (old.trees catalog_tree)
          (λ called. differs (sym (name_is name sql object is) ∙ called)) free)

      -- and all is as it was
      grown_then : (old.reals 8 ≡ 0 → new.reals 8 ≡ 0) → (old.reals 3 ≡ 0 → new.reals 3 ≡ 0)
          → Text name ≢ Text (codes "credit") → Text name ≢ Text (codes "replaced")
          → Text name ≢ Text (codes "journal") → GrowsOn 11 11 old new
      grown_then choices records credit replaced journal form before grown =
          let shape : new.shape ≡ old.shape = ap (λ (v : View). v.shape) lists.is in
          record {
            numbered =
                subst IsTrue (sym (ap (λ (v : View). v.is_numbered) lists.is)) grown.numbered;
            shapes = λ tree small.
                ap (λ (s : ℕ → Shape). s tree) shape ∙ grown.shapes tree small;
            absent = λ tree past small.
                ap (λ (s : ℕ → Shape). s tree) shape ∙ grown.absent tree past small;
            no_floats = choices grown.no_floats;
            plain_records = records grown.plain_records;
            credit_free = λ within.
                free_then (codes "credit") credit (grown.credit_free within);
            replaced_free = λ within.
                free_then (codes "replaced") replaced (grown.replaced_free within);
            journal_free = λ within.
                free_then (codes "journal") journal (grown.journal_free within);
            trees = λ tree small.
                rows_then tree (let few = few_tables form in omega (arith, few, small))
                ∙ grown.trees tree small;
            empty = λ tree past small.
                rows_then tree (omega (arith, small)) ∙ grown.empty tree past small;
            committed = ap (λ (v : View). v.committed) lists.is ∙ grown.committed;
            is_open = ap (λ (v : View). v.is_open) lists.is ∙ grown.is_open;
            broken = ap (λ (v : View). v.is_broken) lists.is ∙ grown.broken;
          }

-- the choices may be listed with their column,
pub may_list_choices : (object : Object) → wanted_of object ≡ choice_table
    → (form : OlderForm) (before view : View) → HasGrown 11 form before view
    → MayRelist view (8, object)
may_list_choices object is form before view grown =
    may_list (codes "choice") choice_text object is 8 form before view grown (omega arith)
    grown.no_floats

pub choices_listed : (object : Object) → wanted_of object ≡ choice_table → (old new : View)
    → Relists old new ((8, object) ∷ []) → GrowsOn 11 11 old new
choices_listed object is old new lists =
    grown_then (codes "choice") choice_text object is 8 old new lists
    (λ plain. ap (λ (v : View). v.reals 8) lists.is
    ∙ reals_is (codes "choice") choice_text object is)
    (λ plain. ap (λ (v : View). v.reals 3) lists.is ∙ plain)
    (other_name (codes "credit") refl (Text (codes "choice")) refl)
    (other_name (codes "replaced") refl (Text (codes "choice")) refl)
    (other_name (codes "journal") refl (Text (codes "choice")) refl)

-- and the records with theirs
pub may_list_records : (object : Object) → wanted_of object ≡ record_table
    → (form : OlderForm) (before view : View) → HasGrown 11 form before view
    → MayRelist view (3, object)
may_list_records object is form before view grown =
    may_list (codes "record") record_text object is 3 form before view grown (omega arith)
    grown.plain_records

pub records_listed : (object : Object) → wanted_of object ≡ record_table → (old new : View)
    → Relists old new ((3, object) ∷ []) → GrowsOn 11 11 old new
records_listed object is old new lists =
    grown_then (codes "record") record_text object is 3 old new lists
    (λ plain. ap (λ (v : View). v.reals 8) lists.is ∙ plain)
    (λ plain. ap (λ (v : View). v.reals 3) lists.is
    ∙ reals_is (codes "record") record_text object is)
    (other_name (codes "credit") refl (Text (codes "record")) refl)
    (other_name (codes "replaced") refl (Text (codes "record")) refl)
    (other_name (codes "journal") refl (Text (codes "record")) refl)

-- One more tree behind those that there are.
module _ (name sql : List ℕ) (object : Object) (is : wanted_of object ≡ table_object name sql)
    (count : ℕ) (few : 11 ≤ count) (small : count < tree_count) (old new : View)
    (creates : Creates old new count object)
  where
    pub grown_more : (suc count ≤ 11 → IsFree (codes "credit") new)
        → (suc count ≤ 12 → IsFree (codes "replaced") new)
        → (suc count ≤ 13 → IsFree (codes "journal") new) → GrowsOn count (suc count) old new
    grown_more credit replaced journal form before grown = record {
      numbered = subst IsTrue (sym (ap (λ (v : View). v.is_numbered) creates.is)) grown.numbered;
      shapes = λ tree within. elim (cases_Bool (tree == count)) [
        | inl last ↦
            let own : tree ≡ count = grind (arith, nat_tests) in
            subst (λ (tree : ℕ). new.shape tree ≡ Index plain) (sym own)
            (shape_own name sql object is count old new creates)
        | inr other ↦
            let below : tree < count = grind (arith, nat_tests) in
            shape_other name sql object is count old new creates tree
            (differs_from tree count other) ∙ grown.shapes tree below
      ];
      absent = λ tree past low.
          shape_other name sql object is count old new creates tree
          (λ is. absurd (omega (arith, past, is)))
          ∙ grown.absent tree (omega (arith, past)) low;
      no_floats = reals_other name sql object is count old new creates 8
          (λ is. absurd (omega (arith, few, is))) ∙ grown.no_floats;
      plain_records = reals_other name sql object is count old new creates 3
          (λ is. absurd (omega (arith, few, is))) ∙ grown.plain_records;
      credit_free = credit;
      replaced_free = replaced;
      journal_free = journal;
      trees = λ tree within.
          let most = few_tables form in
          rows_other name sql object is count old new creates tree
          (omega (arith, most, within)) (λ is. absurd (omega (arith, most, few, within, is)))
          ∙ grown.trees tree within;
      empty = λ tree past within. elim (cases_Bool (tree == count)) [
        | inl last ↦
            let own : tree ≡ count = grind (arith, nat_tests) in
            subst (λ (tree : ℕ). new.trees tree ≡ []) (sym own)
            (rows_own name sql object is count old new creates small)
        | inr other ↦
            let below : tree < count = grind (arith, nat_tests) in
            rows_other name sql object is count old new creates tree
            (omega (arith, below, small)) (differs_from tree count other)
            ∙ grown.empty tree past below
      ];
      committed = ap (λ (v : View). v.committed) creates.is ∙ grown.committed;
      is_open = ap (λ (v : View). v.is_open) creates.is ∙ grown.is_open;
      broken = ap (λ (v : View). v.is_broken) creates.is ∙ grown.broken;
    }

-- the credits,
pub room_for_credits : (object : Object) → wanted_of object ≡ credit_table → (view : View)
    → HasGrownTo 11 view → IsFreeFor view 11 object
room_for_credits object is view grown =
    room_for (codes "credit") credit_text object is 11 view (omega arith) grown.2.numbered
    (grown.2.absent 11 (omega arith) (omega arith)) (grown.2.credit_free (omega arith))

pub credits_made : (object : Object) → wanted_of object ≡ credit_table → (old new : View)
    → Creates old new 11 object → GrowsOn 11 12 old new
credits_made object is old new creates form before grown =
    grown_more (codes "credit") credit_text object is 11 (omega arith) (omega arith) old new creates
    (λ within. absurd (omega (arith, within)))
    (λ within. still_free (codes "credit") credit_text object is 11 old new creates
    (codes "replaced") (other_name (codes "replaced") refl (Text (codes "credit")) refl)
    (grown.replaced_free (omega arith)))
    (λ within. still_free (codes "credit") credit_text object is 11 old new creates
    (codes "journal") (other_name (codes "journal") refl (Text (codes "credit")) refl)
    (grown.journal_free (omega arith))) form before grown

-- the tariffs that were replaced,
pub room_for_replaced : (object : Object) → wanted_of object ≡ replaced_table → (view : View)
    → HasGrownTo 12 view → IsFreeFor view 12 object
room_for_replaced object is view grown =
    room_for (codes "replaced") replaced_text object is 12 view (omega arith) grown.2.numbered
    (grown.2.absent 12 (omega arith) (omega arith)) (grown.2.replaced_free (omega arith))

pub replaced_made : (object : Object) → wanted_of object ≡ replaced_table → (old new : View)
    → Creates old new 12 object → GrowsOn 12 13 old new
replaced_made object is old new creates form before grown =
    grown_more (codes "replaced") replaced_text object is 12 (omega arith) (omega arith) old new
    creates (λ within. absurd (omega (arith, within))) (λ within. absurd (omega (arith, within)))
    (λ within. still_free (codes "replaced") replaced_text object is 12 old new creates
    (codes "journal") (other_name (codes "journal") refl (Text (codes "replaced")) refl)
    (grown.journal_free (omega arith))) form before grown

-- and the journal
pub room_for_journal : (object : Object) → wanted_of object ≡ journal_table → (view : View)
    → HasGrownTo 13 view → IsFreeFor view 13 object
room_for_journal object is view grown =
    room_for (codes "journal") journal_text object is 13 view (omega arith) grown.2.numbered
    (grown.2.absent 13 (omega arith) (omega arith)) (grown.2.journal_free (omega arith))

pub journal_made : (object : Object) → wanted_of object ≡ journal_table → (old new : View)
    → Creates old new 13 object → GrowsOn 13 14 old new
journal_made object is old new creates =
    grown_more (codes "journal") journal_text object is 13 (omega arith) (omega arith) old new
    creates (λ within. absurd (omega (arith, within))) (λ within. absurd (omega (arith, within)))
    (λ within. absurd (omega (arith, within)))

-- with which there are all
pub adds_tables : (form : OlderForm) (before mid now : View) → HasGrown 13 form before mid
    → mid.is_broken ≡ false → HasGrown 14 form before now → AddsTables form before now
adds_tables form before mid now thirteen sound grown =
    let was : before.is_broken ≡ false = sym thirteen.broken ∙ sound in
    record {
      shapes = grown.shapes;
      trees = grown.trees;
      empty = grown.empty;
      committed = grown.committed;
      is_open = grown.is_open;
      was_sound = was;
      sound = grown.broken ∙ was;
    }

-- a list that gives a shape to a tree which older forms do not have is not that of one of them
pub more_listed : (view : View) → IsListed (view.trees catalog_tree) view.shape view.reals
    → view.shape 12 ≡ Index plain → ListMore view.trees
more_listed view list there form is =
    let apart : 12 ≢ catalog_tree = λ is. absurd (omega (arith, is)) in
    let far : 12 ≢ version_tree = λ is. absurd (omega (arith, is)) in
    let few = few_tables form in
    let said : shape_code (Index plain) ≡ shape_code Absent =
    ap shape_code (sym there) ∙ list.shapes 12 apart far
    ∙ ap (λ (rows : List Row). number_in (column (row_for rows 12) 5)) is
    ∙ sym ((is_listed (old_schema form)).shapes 12 apart far)
    ∙ ap shape_code (old_only form 12 (omega (arith, few)) (omega arith)) in
    absurd (omega (arith, said))
