-- What is read of the tables for the trail of a record.
use Rattle.std.specs.Prelude.{◌≡◌, ℕ, Bool, not, List, [], ◌∷◌, filter, map, flat_map}
use Rattle.std.specs.Prelude.{IsPermutation, IsSorted}
use Rattle.book_model.specs.Std.{entries, nat_cmp, Ordering}
use Rattle.book_model.specs.declared.trail.NamedChoice.{NamedChoice}
use Rattle.book_model.specs.declared.trail.Turn.{Turn}
use Rattle.book_model.specs.Words.{is_charge}
use Rattle.table_model.specs.Words.{ChoiceRow, Tables, rows_with, variant_read, choices_with}
use Rattle.tree_tables.specs.Answers.{ListsSharing, names_it}
use Rattle.tree_tables.specs.declared.choice_rows.StoredChoice.{StoredChoice}
use Rattle.tree_tables.specs.declared.stored_record.StoredRecord.{StoredRecord}
use Rattle.table_ledger.specs.declared.trails.Kin.{Kin}

-- Whether one record was charged before some periods, by what they did with it: before a charge it
-- was not, and before a reversal it was.
abbrev pub charged_before : Bool → List Turn → Bool
charged_before charged [] = charged
charged_before charged (turn ∷ later) = not (is_charge turn.deed)

-- the choices that name one of some records, record by record
abbrev pub chosen_of : List StoredRecord → Tables → List (ℕ × ChoiceRow)
chosen_of rows tables =
    flat_map (λ row. filter (names_it row.name) (entries tables.choices)) rows

-- choices by their numbers
abbrev pub by_number : StoredChoice → StoredChoice → Ordering
by_number one other = nat_cmp one.number other.number

-- the same choices, in that order
pub record AreInOrder (found sorted : List StoredChoice) : Type 0 where
  pub same : IsPermutation found sorted
  pub in_order : IsSorted by_number sorted

-- a choice as a trail shows it
abbrev pub choice_told : StoredChoice → NamedChoice
choice_told choice =
    record { period = choice.period; name = choice.name; counts = choice.counts }

-- these are the choices of each identity that the records have, if they are all that have it
abbrev pub ListsKinChoices : List StoredRecord → Tables → List NamedChoice → Type 0
ListsKinChoices rows tables choices =
    (identity : List ℕ) → ListsSharing identity tables rows
    → choices ≡ choices_with identity tables

-- the records of an identity, and the choices among them
pub record IsKin (identity : List ℕ) (tables : Tables) (kin : Kin) : Type 0 where
  pub members : kin.members.items ≡ map variant_read (rows_with identity tables.records)
  pub choices : kin.choices.items ≡ choices_with identity tables
