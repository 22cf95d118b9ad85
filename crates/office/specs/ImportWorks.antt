-- Works that are withheld by the import by which their records came.
use Rattle.std.specs.Prelude.{ℕ, ◌==◌, if◌then◌else◌, List, [], ◌∷◌, ◌++◌, flat_map, Bool, Option}
use Rattle.std.specs.Prelude.{Result, Ok, Err}
use Rattle.book_model.specs.declared.entry.Arrival.{Arrival}
use Rattle.book_model.specs.declared.fault.LedgerFault.{LedgerFault}
use Rattle.book_model.specs.Words.{Book, Event, Naming, Note, Outcome, arrivals, no_event}
use Rattle.book_core.specs.Calls.{Calls}
use Rattle.book_core.specs.Transition.{Then, Transition}
use Rattle.office.specs.Withholdings.{WithholdsSo}
use Rattle.office.specs.declared.withholding.WorksTold.{WorksTold}

-- the names of those records that came by the entry of a number
abbrev pub name_if : ℕ → Arrival → List (List ℕ)
name_if entry arrival = if arrival.entry == entry then arrival.name ∷ [] else []

abbrev pub names_by : ℕ → List Arrival → List (List ℕ)
names_by entry arrivals = flat_map (name_if entry) arrivals

-- some names with that of a record more, if that came by it
abbrev pub names_with : List (List ℕ) → ℕ → Arrival → List (List ℕ)
names_with names entry arrival =
    if arrival.entry == entry then names ++ arrival.name ∷ [] else names

abbrev pub names_outcome : ℕ → Naming → Book → Outcome (List (List ℕ))
names_outcome entry naming book = no_event (Ok (names_by entry (arrivals naming book)))

-- These records were found, and then their works withheld.
pub record WithholdsFound (said : Option Note) (naming : Naming) (entry : ℕ) (told : WorksTold)
    (was : Bool) (before : Book) (events : List Event) (is : Bool) : Type 0 where
  pub names : List (List ℕ)
  pub made : Then
      (Calls (λ (names : List (List ℕ)). names) (names_outcome entry naming) (Ok names))
      (WithholdsSo said naming names told.counts told.refusal) was before events is

-- or the books refused to say which these are
abbrev pub WithholdsImport : Option Note → Naming → ℕ → Result WorksTold LedgerFault → Transition
WithholdsImport said naming entry (Ok told) = WithholdsFound said naming entry told
WithholdsImport said naming entry (Err fault) =
    Calls (λ (names : List (List ℕ)). names) (names_outcome entry naming) (Err fault)
