-- The choices that name a record, as the tree of chosen names lists their numbers.
use Rattle.std.proofs.Common.{◌≡◌, ◌∙◌, ◌+◌, ◌<◌, ℕ, List, [], ◌∷◌, ◌++◌, Some, map, pos, take}
use Rattle.std.proofs.Common.{get_or, length, refl, sym, ap, Bool}
use Rattle.std.specs.Prelude.{filter}
use Rattle.std.specs.Cmp.{nat_cmp_total}
use Rattle.std.specs.FinMap.{entries, get, nat_cmp-IsAntisymmetric}
use Rattle.std.specs.List.{AllByRecursion, AllZip}
use Rattle.std.specs.Option.{option_map}
use Rattle.std.proofs.lemmas.List.Elements.{All-filter, All-from_recursion, recursion_from_All}
use Rattle.sqlite_trees.proofs.ListLemmas.{map-map}
use Rattle.sqlite_value.specs.Order.{Row, column}
use Rattle.sqlite_value.specs.declared.value.Value.TheVariants.{Blob, Int}
use Rattle.book_model.proofs.SetLemmas.{same_bytes-by_cmp}
use Rattle.table_model.specs.Tables.{ChoiceRow, ChoiceTable, Tables}
use Rattle.tree_rows.specs.Indexes.{indexed_by}
use Rattle.tree_rows.specs.Runs.{run_of}
use Rattle.tree_rows.proofs.RunsRead.{zipped_next}
use Rattle.tree_rows.proofs.Taking.{some_is}
use Rattle.tree_tables.specs.Answers.{FindsChoice, FindsNumbered, ListsChosen, names_it}
use Rattle.tree_tables.specs.Columns.{choice_name_columns}
use Rattle.tree_tables.specs.Holds.{choice_name_key}
use Rattle.tree_tables.specs.Stored.{choice_entry}
use Rattle.tree_tables.specs.declared.choice_rows.StoredChoice.{StoredChoice}
use Rattle.tree_tables.specs.declared.chosen_numbers.ChosenNumber.{ChosenNumber}
use Rattle.tree_tables.proofs.ChosenNames.{name_rows, name_run}
use Rattle.tree_tables.proofs.RowsRead.{all_entries, nothing_asked, same_count, told_of_all}

-- a choice under its number
abbrev Entry : Type 0
Entry = ℕ × ChoiceRow

-- the rows say these numbers
abbrev pub SayNumbers : List Row → List ChosenNumber → Type 0
SayNumbers rows numbers =
    AllZip (λ (row : Row) (found : ChosenNumber). column row 1 ≡ Int (pos found.number)) rows numbers

-- where one more choice is found, the choices are those of one more number
pub numbered_more : (numbers : List ChosenNumber) (i : ℕ) (default : ChosenNumber) (tables : Tables)
    (all more : List StoredChoice) (one : StoredChoice) → i < length numbers
    → more ≡ all ++ one ∷ [] → FindsNumbered (take i numbers) tables all
    → FindsChoice (get_or numbers i default).number tables (Some one)
    → FindsNumbered (take (i + 1) numbers) tables more
numbered_more numbers i default tables all more one within more_is so_far found =
    zipped_next (λ (its : ChosenNumber) stored. FindsChoice its.number tables (Some stored)) numbers
    i default all more one within more_is so_far found

-- the numbers that were read
abbrev numbers_of : List ChosenNumber → List ℕ
numbers_of numbers = map (λ (one : ChosenNumber). one.number) numbers

-- the choice is in the table
abbrev Had : ChoiceTable → Entry → Type 0
Had choices e = get choices e.0 ≡ Some e.1

-- what is found of the numbers of choices are the choices
found_are : (tables : Tables) (es : List Entry) (numbers : List ChosenNumber)
    (found : List StoredChoice) → numbers_of numbers ≡ map (λ (e : Entry). e.0) es
    → AllByRecursion (Had tables.choices) es → FindsNumbered numbers tables found
    → map choice_entry found ≡ es
found_are tables [] [] [] same there all = refl
found_are tables [] [] (stored ∷ found) same there all = absurd all
found_are tables [] (one ∷ numbers) found same there all = absurd (let e = same in cc)
found_are tables (e ∷ es) [] found same there all = absurd (let e = same in cc)
found_are tables (e ∷ es) (one ∷ numbers) [] same there all = absurd all
found_are tables (e ∷ es) (one ∷ numbers) (stored ∷ found) same there all =
    let number : one.number ≡ e.0 = (let e = same in cc) in
    let rest : numbers_of numbers ≡ map (λ (e : Entry). e.0) es = (let e = same in cc) in
    let own : choice_entry stored ≡ e =
    some_is (choice_entry stored) e (all.0
    ∙ ap (λ n. option_map (λ (row : ChoiceRow). (n, row)) (get tables.choices n)) number
    ∙ ap (option_map (λ (row : ChoiceRow). (e.0, row))) there.0) in
    λ i. own i ∷ found_are tables es numbers found rest there.1 all.1 i

module _ (tables : Tables) (name : List ℕ) (part : Row) (part_is : part ≡ Blob name ∷ []) where
  -- the choices that name the record
  abbrev chosen : List Entry
  chosen = filter (names_it name) (entries tables.choices)

  -- the row by which one is found
  abbrev found_by : Entry → Row
  found_by e = choice_name_columns (indexed_by choice_name_key e)

  -- are found by the rows of the run
  chosen_run : run_of part (name_rows tables.choices) ≡ map found_by chosen
  chosen_run =
      ap (λ key. run_of key (name_rows tables.choices)) part_is
      ∙ name_run name tables.choices
      ∙ ap (λ (same : List ℕ → List ℕ → Bool). map choice_name_columns
      (map (indexed_by choice_name_key)
      (filter (λ (e : Entry). same e.1.name name) (entries tables.choices))))
      (sym same_bytes-by_cmp)
      ∙ map-map choice_name_columns (indexed_by choice_name_key) chosen

  -- and are in the table
  chosen_had : AllByRecursion (Had tables.choices) chosen
  chosen_had =
      recursion_from_All (Had tables.choices) chosen
      (All-filter (names_it name) (Had tables.choices) (entries tables.choices)
      (All-from_recursion (Had tables.choices) (entries tables.choices)
      (all_entries nat_cmp_total nat_cmp-IsAntisymmetric (Had tables.choices) tables.choices
      (λ k v there. there))))

  -- the numbers that are read are theirs
  chosen_numbers : (numbers : List ChosenNumber)
      → SayNumbers (run_of part (name_rows tables.choices)) numbers
      → numbers_of numbers ≡ map (λ (e : Entry). e.0) chosen
  chosen_numbers numbers says =
      told_of_all found_by (λ (row : Row) (found : ChosenNumber). column row 1 ≡ Int (pos found.number))
      (λ (one : ChosenNumber). one.number) (λ (e : Entry). e.0) (λ (e : Entry). Unit {0})
      (λ one e row good is said. same_count one.number e.0 (sym said ∙ ap (λ r. column r 1) is))
      (run_of part (name_rows tables.choices)) numbers chosen (nothing_asked chosen) says chosen_run

  -- so the choices of the numbers are these
  pub chosen_listed : (numbers : List ChosenNumber) (found : List StoredChoice)
      → SayNumbers (run_of part (name_rows tables.choices)) numbers
      → FindsNumbered numbers tables found → ListsChosen name tables found
  chosen_listed numbers found says all =
      found_are tables chosen numbers found (chosen_numbers numbers says) chosen_had all
