-- A list of the books that is read one item at a time, and what is made of it.
use Rattle.std.specs.Prelude.{◌≡◌, ℕ, List, [], ◌∷◌, map, take, slice_get, Option, None, Some, IfOk}
use Rattle.std.specs.Prelude.{Result, Ok}
use Rattle.book_model.specs.declared.fault.LedgerFault.{LedgerFault}
use Rattle.book_model.specs.Words.{Book, no_event}
use Rattle.book_core.specs.Words.{Seen, IsCall}
use Rattle.book_lists.specs.Shown.{shown_by}

-- the last of some items, if there are any
abbrev pub last_of : {X : Type 0} → List X → Option X
last_of [] = None
last_of (item ∷ []) = Some item
last_of (item ∷ next ∷ more) = last_of (next ∷ more)

-- Where so many items of a list were read, and this is the last of them, the answer is the item that
-- comes next, if there is one, or what refuses the list.
abbrev pub IsNext : {X : Type 0} → Result (List X) LedgerFault → ℕ → Option X
    → Result (Option X) LedgerFault → Type 0
IsNext {X} all count last answer =
    ((items : List X) → all ≡ Ok items → last ≡ last_of (take count items))
    → answer ≡ shown_by (λ items. slice_get items count) all

-- A list was read whole, as by one call that answers it, and this is what its items come to; or it
-- was refused, or something hindered.
pub record Folds {S I X : Type 0} (view : I → X) (old new : Seen)
    (all : Book → Result (List X) LedgerFault) (Has : S → List I → Type 0)
    (result : Result S LedgerFault) : Type 0 where
  pub items : List I
  pub read : IsCall (λ state. map view items) old new result (λ book. no_event (all book))
  pub has : IfOk result (λ state. Has state items)
