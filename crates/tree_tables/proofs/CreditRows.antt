-- Credits, as they are read of their rows.
use Rattle.std.proofs.Common.{◌≡◌, ◌∙◌, ℕ, pos, List, [], ◌∷◌, None, Some, map}
use Rattle.std.proofs.Common.{Bool, false, true, ap, subst, sym}
use Rattle.std.specs.Prelude.{string_bytes}
use Rattle.std.specs.FinMap.{entries, get}
use Rattle.std.specs.List.{AllZip}
use Rattle.std.specs.Option.{option_map}
use Rattle.sqlite_value.specs.Order.{Row}
use Rattle.sqlite_value.specs.declared.value.Value.TheVariants.{Int}
use Rattle.book_model.specs.Words.{Credit}
use Rattle.table_model.specs.Tables.{Tables}
use Rattle.tree_rows.specs.Layouts.{Answers}
use Rattle.tree_rows.specs.Rows.{Finds}
use Rattle.tree_rows.proofs.Keyed.{row_found}
use Rattle.tree_tables.specs.Answers.{FindsCredit}
use Rattle.tree_tables.specs.Columns.{credit_columns}
use Rattle.tree_tables.specs.Stored.{SaysCredit, credit_entry}
use Rattle.tree_tables.specs.declared.credit_rows.StoredCredit.{StoredCredit}
use Rattle.tree_tables.proofs.Layouts.{credit_layout}
use Rattle.tree_tables.proofs.RowsRead.{same_count, same_int, same_text, told_of_each}

-- a credit that a row says is the one that the row is made of
credit_said : (entry : ℕ × Credit) (stored : StoredCredit)
    → SaysCredit (credit_columns entry) stored → credit_entry stored ≡ entry
credit_said entry stored says =
    let number = same_count stored.number entry.0 (sym says.number) in
    let period = same_count stored.period entry.1.period (sym says.period) in
    let centre = same_text stored.centre entry.1.centre (sym says.centre) in
    let amount = same_int stored.amount entry.1.amount (sym says.amount) in
    let reason = same_text (string_bytes stored.reason) entry.1.reason (sym says.reason) in
    λ i. (
      number i,
      record { centre = centre i; amount = amount i; reason = reason i; period = period i },
    )

-- so the credits that are read of all rows are those of the table
pub credits_said : (credits : List (ℕ × Credit)) (list : List StoredCredit)
    → AllZip SaysCredit (map credit_columns credits) list → map credit_entry list ≡ credits
credits_said = told_of_each credit_columns SaysCredit credit_entry credit_said

-- A credit is looked up by its number.
module _ (number : ℕ) (tables : Tables) {rows : List Row} {key row : Row} {hit : Bool}
    (held : rows ≡ map credit_columns (entries tables.credits)) (key_is : key ≡ Int (pos number) ∷ [])
    (finds : Finds key rows row hit) where
  -- one that is not found is not there,
  pub credit_missing : hit ≡ false → FindsCredit number tables None
  credit_missing missing =
      ap (option_map (λ (one : Credit). (number, one)))
      (sym (subst (Answers credit_layout tables.credits number row) missing
      (row_found credit_layout tables.credits number finds held key_is)))

  -- one that is found is there, and the row is its own,
  credit_there : hit ≡ true
      → (found : Credit) × (get tables.credits number ≡ Some found)
      × (row ≡ credit_columns (number, found))
  credit_there there =
      subst (Answers credit_layout tables.credits number row) there
      (row_found credit_layout tables.credits number finds held key_is)

  -- and what is read of the row is the credit
  pub credit_found : (stored : StoredCredit) → hit ≡ true → SaysCredit row stored
      → FindsCredit number tables (Some stored)
  credit_found stored there says =
      let found = credit_there there in
      ap Some (credit_said (number, found.0) stored
      (subst (λ columns. SaysCredit columns stored) found.2 says))
      ∙ ap (option_map (λ (one : Credit). (number, one))) (sym found.1)
