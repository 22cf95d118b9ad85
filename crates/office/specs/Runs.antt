-- Requests with no reader at hand, one after another.
use Rattle.std.specs.Prelude.{List, [], ◌∷◌, Result}
use Rattle.book_model.specs.declared.fault.LedgerFault.{LedgerFault}
use Rattle.book_model.specs.Words.{Naming}
use Rattle.book_core.specs.Transition.{Transition, NoEvent, Then}
use Rattle.office.specs.declared.request.Asked.{Asked}
use Rattle.office.specs.declared.request.Asked.TheVariants.{Import, ImportBytes}
use Rattle.office.specs.declared.request.Answer.{Answer}
use Rattle.office.specs.Requests.{Dump, whole_dump, no_dump, Asks, IsAskableUnread, Never, response_by}

-- what may be asked with no reader at hand: it brings its dump, if it has one
abbrev pub IsAskableWithoutReader : Asked → Type 0
IsAskableWithoutReader (Import layout said) = ⊥
IsAskableWithoutReader asked = IsAskableUnread asked

-- the dump that a request brings
abbrev pub dump_here : Asked → Dump
dump_here (ImportBytes layout bytes said) = whole_dump layout bytes.items
dump_here asked = no_dump

-- the books were asked, with the dump that the request brings, and answered this
abbrev pub AsksWithoutReader : Naming → Asked → Result Answer LedgerFault → Transition
AsksWithoutReader naming asked answer = Asks naming asked (dump_here asked) (response_by answer)

-- the books were asked one request after another, each with the dump that it brings, and answered these
abbrev pub Runs : Naming → List Asked → List (Result Answer LedgerFault) → Transition
Runs naming [] [] = NoEvent
Runs naming (asked ∷ requests) (answer ∷ answers) =
    Then (AsksWithoutReader naming asked answer) (Runs naming requests answers)
Runs naming requests answers = Never
