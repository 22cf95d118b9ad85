-- The choices that name the records of an identity: found record by record, and then put in order,
-- they are those of the table, in its order.
use Rattle.std.proofs.Common.{◌≡◌, ◌∙◌, ◌+◌, ◌<◌, ℕ, List, [], ◌∷◌, ◌++◌, map, length, refl, sym}
use Rattle.std.proofs.Common.{ap, subst, Bool, true, false, cond, not, ◌&&◌, ◌||◌, Some, take}
use Rattle.std.proofs.Common.{get_or, filter, flat_map, IsPermutation, nat_cmp, Ordering, Less}
use Rattle.std.specs.List.{IsDistinct}
use Rattle.std.specs.List.Sorted.{IsStrictlySortedBy}
use Rattle.std.proofs.lemmas.List.{flat_map_more}
use Rattle.std.proofs.lemmas.List.Sorted.{IsPermutation-append_right, IsPermutation-filter_both}
use Rattle.sqlite_trees.proofs.ListLemmas.{map-map}
use Rattle.book_model.proofs.Std.{IsTotalOrder, nat_cmp_total, entries, entries_sorted, get-entries}
use Rattle.book_model.proofs.Std.{AllByRecursion, list_any, option_map_or, eq_by_cmp}
use Rattle.book_model.proofs.Std.{eq_by_cmp_equiv, nat_list_cmp_total, on_total, map-append}
use Rattle.book_model.proofs.Std.{take_more, IsStrictlySortedBy-filter, IsPermutation-map}
use Rattle.book_model.proofs.Std.{IsPermutation-refl, IsPermutation-sym, IsPermutation-trans}
use Rattle.book_model.proofs.Std.{IsDistinct-from_sorted, IsDistinct-head, IsDistinct-tail}
use Rattle.book_model.proofs.Std.{exact_bytes, tells_apart}
use Rattle.book_model.specs.declared.trail.NamedChoice.{NamedChoice}
use Rattle.book_model.specs.Words.{by_bytes, same_bytes}
use Rattle.book_model.proofs.Lemmas.{filter-agree, filter-filter, filter-map, list_any-map}
use Rattle.book_model.proofs.Lemmas.{keys_rise, same_bytes-by_cmp}
use Rattle.book_model.proofs.PermutedSets.{distinct_permuted, only_rising, rising_from_sorted}
use Rattle.book_model.proofs.RecordSets.{tests_swap}
use Rattle.book_core.proofs.EntryLemmas.{list_any-at_key}
use Rattle.table_model.specs.Words.{ChoiceRow, RecordRow, RecordTable, Tables, name_has_identity}
use Rattle.table_model.specs.Words.{NamedRow, choices_with}
use Rattle.table_model.specs.TrailRead.{row_choice}
use Rattle.table_model.proofs.PickedRows.{filter-nothing}
use Rattle.table_model.proofs.RowOrder.{list_any-filter}
use Rattle.tree_tables.specs.Answers.{ListsChosen, names_it}
use Rattle.table_ledger.proofs.Words.{find, lookup, ListsSharing, choice_entry, stored_entry}
use Rattle.table_ledger.proofs.Words.{StoredChoice, StoredRecord, choice_told}
use Rattle.table_ledger.specs.TrailReads.{AreInOrder, by_number, chosen_of}

-- a choice under its number
abbrev Entry : Type 0
Entry = ℕ × ChoiceRow

-- ---- what rises by results

module _ {X K : Type 0} (f : X → K) (R : K → K → Ordering) where
  -- what rises by a function's results rises by the function,
  rise_by : (xs : List X) → IsStrictlySortedBy R (map f xs)
      → IsStrictlySortedBy (λ a b. R (f a) (f b)) xs
  unfolding IsStrictlySortedBy
  rise_by [] rise = tt
  rise_by (x ∷ xs) rise = (above xs rise.0, rise_by xs rise.1)
    where
      above : (ys : List X) → AllByRecursion (λ y. R (f x) y ≡ Less) (map f ys)
          → AllByRecursion (λ y. R (f x) (f y) ≡ Less) ys
      above [] all = tt
      above (y ∷ ys) all = (all.0, above ys all.1)

  -- and the other way
  rise_of : (xs : List X) → IsStrictlySortedBy (λ a b. R (f a) (f b)) xs
      → IsStrictlySortedBy R (map f xs)
  unfolding IsStrictlySortedBy
  rise_of [] rise = tt
  rise_of (x ∷ xs) rise = (above xs rise.0, rise_of xs rise.1)
    where
      above : (ys : List X) → AllByRecursion (λ y. R (f x) (f y) ≡ Less) ys
          → AllByRecursion (λ y. R (f x) y ≡ Less) (map f ys)
      above [] all = tt
      above (y ∷ ys) all = (all.0, above ys all.1)

-- what differs by a function's results differs by the function
differ_by : {X K : Type 0} (f : X → K) (e : K → K → Bool) (xs : List X) → IsDistinct e (map f xs)
    → IsDistinct (λ a b. e (f a) (f b)) xs
unfolding IsDistinct
differ_by f e [] distinct = tt
differ_by {X} f e (x ∷ xs) distinct = (apart xs distinct.0, differ_by f e xs distinct.1)
  where
    apart : (ys : List X) → AllByRecursion (λ y. e (f x) y ≡ false) (map f ys)
        → AllByRecursion (λ y. e (f x) (f y) ≡ false) ys
    apart [] all = tt
    apart (y ∷ ys) all = (all.0, apart ys all.1)

-- ---- what passes one of two tests

-- a test and one of the two is the test; no test and one of the two is the other, where not both hold
first_alone : (a b : Bool) → (a && (a || b)) ≡ a
first_alone true b = refl
first_alone false b = refl

second_alone : (a b : Bool) → (a ≡ true → b ≡ false) → (not a && (a || b)) ≡ b
second_alone true b apart = sym (apart refl)
second_alone false b apart = refl

-- what passes one of two tests that nothing passes both of passes the one or the other
parted : {X : Type 0} (p q : X → Bool) → ((x : X) → p x ≡ true → q x ≡ false) → (xs : List X)
    → IsPermutation (filter (λ x. p x || q x) xs) (filter p xs ++ filter q xs)
parted {X} p q apart xs =
    let either : X → Bool = λ x. p x || q x in
    let some : List X = filter either xs in
    let one = filter-filter p either xs
    ∙ filter-agree (λ x. p x && either x) p xs (λ k d within.
    first_alone (p (get_or xs k d)) (q (get_or xs k d))) in
    let other = filter-filter (λ x. not (p x)) either xs
    ∙ filter-agree (λ x. not (p x) && either x) q xs (λ k d within.
    second_alone (p (get_or xs k d)) (q (get_or xs k d)) (apart (get_or xs k d))) in
    subst (IsPermutation some) (λ i. one i ++ other i)
    (IsPermutation-filter_both p (λ x. not (p x)) (λ x. refl) some)

-- ---- the choices of records with different names

-- the names differ
abbrev same_names : StoredRecord → StoredRecord → Bool
same_names one other = eq_by_cmp by_bytes one.name other.name

-- a choice names one of the records
abbrev names_one : List StoredRecord → Entry → Bool
names_one rows entry = list_any (λ (row : StoredRecord). names_it row.name entry) rows

-- one that names a record names no other
names_no_other : (row : StoredRecord) (rows : List StoredRecord)
    → AllByRecursion (λ other. same_names row other ≡ false) rows → (entry : Entry)
    → names_it row.name entry ≡ true → names_one rows entry ≡ false
names_no_other row [] differ entry own = refl
names_no_other row (other ∷ rows) differ entry own =
    let is : entry.1.name ≡ row.name =
    tells_apart exact_bytes entry.1.name row.name
    (sym (λ i. same_bytes-by_cmp i entry.1.name row.name) ∙ own) in
    let first : names_it other.name entry ≡ false =
    (λ i. same_bytes-by_cmp i entry.1.name other.name)
    ∙ ap (λ name. eq_by_cmp by_bytes name other.name) is ∙ differ.0 in
    (λ i. first i || names_no_other row rows differ.1 entry own i)

-- so the choices that name one of the records are those of each, record by record
pub chosen_parted : (rows : List StoredRecord) → IsDistinct same_names rows → (es : List Entry)
    → IsPermutation (filter (names_one rows) es)
    (flat_map (λ (row : StoredRecord). filter (names_it row.name) es) rows)
chosen_parted [] distinct es =
    subst (λ some. IsPermutation some []) (sym (filter-nothing es)) (IsPermutation-refl [])
chosen_parted (row ∷ rows) distinct es =
    let own : List Entry = filter (names_it row.name) es in
    let others : List Entry = filter (names_one rows) es in
    let later : List Entry =
    flat_map (λ (row : StoredRecord). filter (names_it row.name) es) rows in
    IsPermutation-trans (filter (names_one (row ∷ rows)) es) (own ++ others) (own ++ later)
    (parted (names_it row.name) (names_one rows)
    (names_no_other row rows (IsDistinct-head same_names row rows distinct)) es)
    (IsPermutation-append_right own others later
    (chosen_parted rows (IsDistinct-tail same_names row rows distinct) es))

-- with one record more, its choices come after the others
pub chosen-more : (rows : List StoredRecord) (at : ℕ) (one : StoredRecord) (tables : Tables)
    (olds chosen news : List StoredChoice) → at < length rows → one ≡ get_or rows at one
    → map choice_entry olds ≡ chosen_of (take at rows) tables
    → ListsChosen one.name tables chosen → news ≡ olds ++ chosen
    → map choice_entry news ≡ chosen_of (take (at + 1) rows) tables
chosen-more rows at one tables olds chosen news within is so_far lists more =
    let its : StoredRecord → List Entry =
    λ row. filter (names_it row.name) (entries tables.choices) in
    ap (map choice_entry) more ∙ map-append choice_entry olds chosen
    ∙ (λ i. so_far i ++ lists i)
    ∙ sym (ap (flat_map its) (take_more rows at one within
    ∙ ap (λ last. take at rows ++ last ∷ []) (sym is))
    ∙ sym (flat_map_more its [] (take at rows) one))

-- ---- the records of an identity

-- what is looked up is what is found
lookup_is : (name : List ℕ) (es : List NamedRow)
    → lookup (eq_by_cmp by_bytes name) es ≡ find by_bytes name es
lookup_is name [] = refl
lookup_is name (e ∷ es) =
    ap (cond (eq_by_cmp by_bytes name e.0) (Some e.1)) (lookup_is name es)

module _ (identity : List ℕ) (tables : Tables) (rows : List StoredRecord)
    (lists : ListsSharing identity tables rows) where
  abbrev records : RecordTable
  records = tables.records

  -- the names of the records rise
  names_rise : IsStrictlySortedBy (λ (one other : NamedRow). by_bytes one.0 other.0)
      (entries records)
  names_rise =
      rise_by (λ (e : NamedRow). e.0) by_bytes (entries records)
      (keys_rise by_bytes (entries records) (entries_sorted records))

  -- so those of the identity differ
  rows_differ : IsDistinct same_names rows
  rows_differ =
      let by_name : NamedRow → NamedRow → Ordering = λ one other. by_bytes one.0 other.0 in
      let own : NamedRow → Bool = λ e. same_bytes e.1.identity identity in
      IsDistinct-from_sorted (λ (one other : StoredRecord). by_bytes one.name other.name) rows
      (rise_by stored_entry by_name rows
      (subst (IsStrictlySortedBy by_name) (sym lists)
      (IsStrictlySortedBy-filter by_name own (entries records) names_rise)))

  -- a name is that of one of them where its record has the identity
  is_one_of : (name : List ℕ)
      → list_any (λ (row : StoredRecord). same_bytes name row.name) rows
      ≡ name_has_identity records identity name
  is_one_of name =
      let own : RecordRow → Bool = λ row. same_bytes row.identity identity in
      let named : NamedRow → Bool = λ e. same_bytes name e.0 in
      sym (list_any-map named stored_entry rows)
      ∙ ap (list_any named) lists
      ∙ list_any-filter named (λ e. own e.1) (entries records)
      ∙ (λ i. list_any (λ (e : NamedRow). tests_swap (own e.1) (same_bytes name e.0) i)
      (entries records))
      ∙ (λ i. list_any (λ (e : NamedRow). same_bytes-by_cmp i name e.0 && own e.1)
      (entries records))
      ∙ list_any-at_key (eq_by_cmp_equiv nat_list_cmp_total) name own (entries records)
      (IsDistinct-from_sorted by_bytes (map (λ (e : NamedRow). e.0) (entries records))
      (keys_rise by_bytes (entries records) (entries_sorted records)))
      ∙ ap (λ found. option_map_or own found false)
      (lookup_is name (entries records) ∙ sym (get-entries records name))

  -- the choices of the table that name one of them
  abbrev has_own : Entry → Bool
  has_own e = name_has_identity records identity e.1.name

  abbrev chosen : List Entry
  chosen = filter has_own (entries tables.choices)

  abbrev by_entry : Entry → Entry → Ordering
  by_entry one other = nat_cmp one.0 other.0

  by_entry_total : IsTotalOrder by_entry
  by_entry_total = on_total (λ (e : Entry). e.0) nat_cmp_total

  chosen_rise : IsStrictlySortedBy by_entry chosen
  chosen_rise =
      IsStrictlySortedBy-filter by_entry has_own (entries tables.choices)
      (rise_by (λ (e : Entry). e.0) nat_cmp (entries tables.choices)
      (keys_rise nat_cmp (entries tables.choices) (entries_sorted tables.choices)))

  module _ (found sorted : List StoredChoice)
      (found_are : map choice_entry found ≡ chosen_of rows tables)
      (ordered : AreInOrder found sorted) where
    -- are those that were found, in another order
    chosen_same : IsPermutation chosen (map choice_entry sorted)
    chosen_same =
        let tests : filter (names_one rows) (entries tables.choices) ≡ chosen =
        filter-agree (names_one rows) has_own (entries tables.choices) (λ k d within.
        is_one_of (get_or (entries tables.choices) k d).1.name) in
        IsPermutation-trans chosen (map choice_entry found) (map choice_entry sorted)
        (subst (λ some. IsPermutation some (map choice_entry found)) tests
        (subst (IsPermutation (filter (names_one rows) (entries tables.choices))) (sym found_are)
        (chosen_parted rows rows_differ (entries tables.choices))))
        (IsPermutation-map choice_entry found sorted ordered.same)

    -- and so in the order of their numbers they are these
    sorted_are : map choice_entry sorted ≡ chosen
    sorted_are =
        let differ : IsDistinct (eq_by_cmp by_number) sorted =
        differ_by choice_entry (eq_by_cmp by_entry) sorted
        (distinct_permuted by_entry_total chosen (map choice_entry sorted) chosen_same
        (IsDistinct-from_sorted by_entry chosen chosen_rise)) in
        let rise = rise_of choice_entry by_entry sorted
        (rising_from_sorted (on_total (λ (choice : StoredChoice). choice.number) nat_cmp_total)
        sorted differ ordered.in_order) in
        only_rising by_entry_total (map choice_entry sorted) chosen rise chosen_rise
        (IsPermutation-sym chosen (map choice_entry sorted) chosen_same)

    -- so they are told as the table has them
    pub choices_told : map choice_told sorted ≡ choices_with identity tables
    choices_told =
        let made : Entry → NamedChoice = λ e. row_choice e.1 in
        let test : ChoiceRow → Bool =
        λ row. name_has_identity records identity row.name in
        sym (map-map made choice_entry sorted)
        ∙ ap (map made) sorted_are
        ∙ sym (map-map row_choice (λ (e : Entry). e.1) chosen)
        ∙ ap (map row_choice) (sym (filter-map test (λ (e : Entry). e.1) (entries tables.choices)))
