-- A list that is written while it is read: what stands above its items, a part for each, and what
-- stands below.
use Rattle.std.specs.Prelude.{◌≡◌, ℕ, ◌+◌, List, [], ◌∷◌, ◌++◌, map, Option, Result}
use Rattle.book_model.specs.declared.fault.LedgerFault.{LedgerFault}
use Rattle.book_model.specs.Words.{Book, Naming}
use Rattle.book_core.specs.Words.{Seen, IsTransition}
use Rattle.book_lists.specs.declared.fault.ReportFault.{ReportFault}
use Rattle.book_lists.specs.Shown.{shown_by}
use Rattle.book_lists.specs.Streamed.{WritesAnswerUntil}

-- the parts of some items, which are numbered from here on
abbrev pub parts_from : {X : Type 0} → (ℕ → X → List ℕ) → ℕ → List X → List ℕ
parts_from part number [] = []
parts_from part number (item ∷ more) = part number item ++ parts_from part (number + 1) more

-- the text of some items
abbrev pub list_text : {X : Type 0} → List ℕ → (ℕ → X → List ℕ) → (List X → List ℕ) → List X → List ℕ
list_text above part below items = (above ++ parts_from part 0 items) ++ below items

-- the text of a book's items, or what refuses them
abbrev pub list_answer : {X : Type 0} → List ℕ → (ℕ → X → List ℕ) → (List X → List ℕ)
    → (Naming → Book → Result (List X) LedgerFault) → Naming → Book → Result (List ℕ) LedgerFault
list_answer above part below all naming book = shown_by (list_text above part below) (all naming book)

-- items have the parts that the definitions give them
pub record IsWrittenAs {I X : Type 0} (view : I → X) (part : ℕ → I → List ℕ) (below : List I → List ℕ)
    (part_of : ℕ → X → List ℕ) (below_of : List X → List ℕ) : Type 0 where
  pub parts : (number : ℕ) (item : I) → part number item ≡ part_of number (view item)
  pub ends : (items : List I) → below items ≡ below_of (map view items)

-- A book's list was written so, by whatever definition its items are, or a prefix of it that is not
-- the whole; or it was refused, or hindered, and nothing was written.
abbrev pub WritesList : {I X : Type 0} → (I → X) → List ℕ → (ℕ → I → List ℕ) → (List I → List ℕ)
    → (Naming → Book → Result (List X) LedgerFault) → Seen → Seen → Option (List ℕ) → Option (List ℕ)
    → Result (Unit {0}) ReportFault → Type 0
WritesList {I} {X} view above part below all old new held holds result =
    (part_of : ℕ → X → List ℕ) (below_of : List X → List ℕ)
    → IsWrittenAs view part below part_of below_of
    → IsTransition old new
    (WritesAnswerUntil (list_answer above part_of below_of all) old.naming held holds result)
