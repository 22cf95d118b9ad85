-- Tariffs that were replaced, as they are read of their rows.
use Rattle.std.proofs.Common.{◌≡◌, ◌∙◌, ℕ, pos, List, [], ◌∷◌, None, Some, map}
use Rattle.std.proofs.Common.{Bool, false, true, ap, subst, sym}
use Rattle.std.specs.Prelude.{string_bytes}
use Rattle.std.specs.FinMap.{entries, get}
use Rattle.std.specs.List.{AllZip}
use Rattle.std.specs.Option.{option_map}
use Rattle.sqlite_value.specs.Order.{Row}
use Rattle.sqlite_value.specs.declared.value.Value.TheVariants.{Int}
use Rattle.table_model.specs.Tables.{ReplacedRow, Tables}
use Rattle.tree_rows.specs.Layouts.{Answers}
use Rattle.tree_rows.specs.Rows.{Finds}
use Rattle.tree_rows.proofs.Keyed.{row_found}
use Rattle.tree_tables.specs.Answers.{FindsReplaced}
use Rattle.tree_tables.specs.Columns.{replaced_columns}
use Rattle.tree_tables.specs.Stored.{SaysReplaced, replaced_entry}
use Rattle.tree_tables.specs.declared.replaced_rows.StoredReplaced.{StoredReplaced}
use Rattle.tree_tables.proofs.Layouts.{replaced_layout}
use Rattle.tree_tables.proofs.RowsRead.{same_count, same_int, told_of_each}
use Rattle.tree_tables.proofs.Rulings.{same_text}

-- a tariff that a row says is the one that the row is made of
replaced_said : (entry : ℕ × ReplacedRow) (stored : StoredReplaced)
    → SaysReplaced (replaced_columns entry) stored → replaced_entry stored ≡ entry
replaced_said entry stored says =
    let number = same_count stored.number entry.0 (sym says.number) in
    let day = same_int stored.day entry.1.day (sym says.day) in
    let period = same_count stored.period entry.1.period (sym says.period) in
    let text = same_text entry.1.text (string_bytes stored.body) says.text in
    λ i. (number i, record { day = day i; text = text i; period = period i })

-- so those that are read of all rows are those of the table
pub all_replaced_said : (replaced : List (ℕ × ReplacedRow)) (list : List StoredReplaced)
    → AllZip SaysReplaced (map replaced_columns replaced) list
    → map replaced_entry list ≡ replaced
all_replaced_said = told_of_each replaced_columns SaysReplaced replaced_entry replaced_said

-- A tariff that was replaced is looked up by its number.
module _ (number : ℕ) (tables : Tables) {rows : List Row} {key row : Row} {hit : Bool}
    (held : rows ≡ map replaced_columns (entries tables.replaced))
    (key_is : key ≡ Int (pos number) ∷ []) (finds : Finds key rows row hit) where
  -- one that is not found is not there,
  pub replaced_missing : hit ≡ false → FindsReplaced number tables None
  replaced_missing missing =
      ap (option_map (λ (one : ReplacedRow). (number, one)))
      (sym (subst (Answers replaced_layout tables.replaced number row) missing
      (row_found replaced_layout tables.replaced number finds held key_is)))

  -- one that is found is there, and the row is its own,
  replaced_there : hit ≡ true
      → (found : ReplacedRow) × (get tables.replaced number ≡ Some found)
      × (row ≡ replaced_columns (number, found))
  replaced_there there =
      subst (Answers replaced_layout tables.replaced number row) there
      (row_found replaced_layout tables.replaced number finds held key_is)

  -- and what is read of the row is that tariff
  pub replaced_found : (stored : StoredReplaced) → hit ≡ true → SaysReplaced row stored
      → FindsReplaced number tables (Some stored)
  replaced_found stored there says =
      let found = replaced_there there in
      ap Some (replaced_said (number, found.0) stored
      (subst (λ columns. SaysReplaced columns stored) found.2 says))
      ∙ ap (option_map (λ (one : ReplacedRow). (number, one))) (sym found.1)
