-- Whether a choice names a record, as the tree of chosen names shows it; and the choices as they
-- are looked up and listed.
use Rattle.std.proofs.Common.{◌≡◌, ◌∙◌, ℕ, List, [], ◌∷◌, Bool, true, false, map, pos}
use Rattle.std.proofs.Common.{Some, None, refl, sym, ap, subst}
use Rattle.std.specs.Prelude.{filter}
use Rattle.std.specs.Cmp.Lexicographic.{nat_list_cmp_total}
use Rattle.std.specs.FinMap.{entries, get, values}
use Rattle.std.specs.List.{AllZip, list_any}
use Rattle.std.specs.Option.{option_map}
use Rattle.std.specs.Ordering.{eq_by_cmp, is_eq, nat_cmp}
use Rattle.std.proofs.lemmas.Map.Views.{tells_apart}
use Rattle.sqlite_trees.proofs.ListLemmas.{filter-map}
use Rattle.sqlite_value.specs.Order.{Row}
use Rattle.sqlite_value.specs.declared.value.Value.TheVariants.{Blob, Int}
use Rattle.book_model.proofs.SetLemmas.{same_bytes-by_cmp}
use Rattle.table_model.specs.Tables.{ChoiceRow, ChoiceTable, Tables}
use Rattle.table_model.specs.Views.{has_choice}
use Rattle.tree_rows.specs.Indexes.{by_bytes, indexed_by}
use Rattle.tree_rows.specs.Layouts.{Answers}
use Rattle.tree_rows.specs.Rows.{Finds, IsFirst}
use Rattle.tree_rows.specs.Runs.{run_of}
use Rattle.tree_rows.proofs.IndexLists.{index_in_order}
use Rattle.tree_rows.proofs.IndexOrders.{by_bytes_exact}
use Rattle.tree_rows.proofs.Keyed.{row_found}
use Rattle.tree_rows.proofs.Runs.{finds_run, run_named}
use Rattle.tree_tables.specs.Answers.{FindsChoice, HasChoice}
use Rattle.tree_tables.specs.Columns.{choice_columns, choice_name_columns}
use Rattle.tree_tables.specs.Holds.{choice_name_key, choice_name_index}
use Rattle.tree_tables.specs.Stored.{SaysChoice, choice_entry}
use Rattle.tree_tables.specs.declared.choice_rows.StoredChoice.{StoredChoice}
use Rattle.tree_tables.proofs.ChoiceRows.{chosen_named}
use Rattle.tree_tables.proofs.LineRows.{same_flag}
use Rattle.tree_tables.proofs.RowsRead.{any_is, first_has, has_one, made_has, same_blob, same_count}
use Rattle.tree_tables.proofs.RowsRead.{told_of_each}
use Rattle.tree_tables.proofs.Layouts.{choice_layout, choice_name_layout}

-- a choice under its number
abbrev Entry : Type 0
Entry = ℕ × ChoiceRow

-- a key of the tree of chosen names
abbrev Key : Type 0
Key = List ℕ × ℕ

-- the rows of the tree
abbrev pub name_rows : ChoiceTable → List Row
name_rows choices = map choice_name_columns (entries (choice_name_index choices))

-- Choices of one name are in the tree of names in the order of their numbers.
module _ (name : List ℕ) where
  -- the key has the name
  abbrev has_name : Key → Bool
  has_name key = is_eq (by_bytes key.0 name)

  only_name : (key : Key) → has_name key ≡ true → key.0 ≡ name
  only_name key same = tells_apart by_bytes_exact key.0 name same

  -- the choices that have the name
  abbrev with_name : List Entry → List Entry
  with_name es = filter (λ e. has_name (choice_name_key e)) es

  -- their keys
  abbrev keys_with : List Entry → List (Key × Unit {0})
  keys_with es = map (indexed_by choice_name_key) (with_name es)

  -- the rows that begin with the name are those of the choices that have it
  pub name_run : (choices : ChoiceTable) → run_of (Blob name ∷ []) (name_rows choices)
      ≡ map choice_name_columns (keys_with (entries choices))
  name_run choices =
      run_named nat_cmp choice_name_layout (λ number. Int (pos number) ∷ [])
      (λ one number. refl) name (choice_name_index choices)
      ∙ ap (map choice_name_columns) (index_in_order chosen_named nat_list_cmp_total
      (λ key. key.0) (λ e f. refl) name has_name only_name choices)

  -- a choice names the record where one has the name
  named_has : (choices : ChoiceTable)
      → has_choice choices name ≡ has_one (with_name (entries choices))
  named_has choices =
      ap (λ (same : List ℕ → List ℕ → Bool).
      list_any (λ (choice : ChoiceRow). same choice.name name) (values choices))
      same_bytes-by_cmp
      ∙ any_is (λ (choice : ChoiceRow). eq_by_cmp by_bytes choice.name name) (values choices)
      ∙ ap has_one (filter-map (λ (choice : ChoiceRow). eq_by_cmp by_bytes choice.name name)
      (λ (e : Entry). e.1) (entries choices))
      ∙ made_has (λ (e : Entry). e.1) (with_name (entries choices))

  -- So a look-up of the name in the tree shows whether a choice names the record.
  pub named_found : (tables : Tables) {rows : List Row} {key row : Row} (hit : Bool)
      → rows ≡ name_rows tables.choices → key ≡ Blob name ∷ [] → Finds key rows row hit
      → HasChoice name tables hit
  named_found tables {rows} {key} {row} hit held key_is finds =
      let es = with_name (entries tables.choices) in
      first_has (map choice_name_columns (keys_with (entries tables.choices))) row hit
      (subst (λ run. IsFirst run row hit)
      (ap (λ part. run_of part rows) key_is ∙ ap (run_of (Blob name ∷ [])) held
      ∙ name_run tables.choices) (finds_run key row rows hit finds))
      ∙ made_has choice_name_columns (keys_with (entries tables.choices))
      ∙ made_has (indexed_by choice_name_key) es ∙ sym (named_has tables.choices)

-- a choice that a row says is the one that the row is made of
choice_said : (choice : Entry) (stored : StoredChoice) → SaysChoice (choice_columns choice) stored
    → choice_entry stored ≡ choice
choice_said choice stored says =
    let number = same_count stored.number choice.0 (sym says.number) in
    let name = same_blob stored.name choice.1.name (sym says.name) in
    let period = same_count stored.period choice.1.period (sym says.period) in
    let counts = same_flag stored.counts choice.1.counts (sym says.counts) in
    λ i. (number i, record { name = name i; counts = counts i; period = period i })

-- so the choices that are read of all rows are those of the table
pub choices_said : (choices : List Entry) (list : List StoredChoice)
    → AllZip SaysChoice (map choice_columns choices) list → map choice_entry list ≡ choices
choices_said = told_of_each choice_columns SaysChoice choice_entry choice_said

-- A choice is looked up by its number.
module _ (number : ℕ) (tables : Tables) {rows : List Row} {key row : Row} {hit : Bool}
    (held : rows ≡ map choice_columns (entries tables.choices)) (key_is : key ≡ Int (pos number) ∷ [])
    (finds : Finds key rows row hit) where
  -- one that is not found is not there,
  pub choice_missing : hit ≡ false → FindsChoice number tables None
  choice_missing missing =
      ap (option_map (λ (one : ChoiceRow). (number, one)))
      (sym (subst (Answers choice_layout tables.choices number row) missing
      (row_found choice_layout tables.choices number finds held key_is)))

  -- one that is found is there, and the row is its own,
  pub choice_there : hit ≡ true
      → (found : ChoiceRow) × (get tables.choices number ≡ Some found)
      × (row ≡ choice_columns (number, found))
  choice_there there =
      subst (Answers choice_layout tables.choices number row) there
      (row_found choice_layout tables.choices number finds held key_is)

  -- and what is read of the row is the choice
  pub choice_found : (stored : StoredChoice) → hit ≡ true → SaysChoice row stored
      → FindsChoice number tables (Some stored)
  choice_found stored there says =
      let found = choice_there there in
      ap Some (choice_said (number, found.0) stored
      (subst (λ columns. SaysChoice columns stored) found.2 says))
      ∙ ap (option_map (λ (one : ChoiceRow). (number, one))) (sym found.1)
