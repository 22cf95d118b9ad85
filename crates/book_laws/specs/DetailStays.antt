-- Details of closed periods stay, and details are read one after another.
use Rattle.std.specs.Prelude.{◌≡◌, ℕ, List, ◌∷◌, ◌++◌, Option, Some}
use Rattle.book_model.specs.declared.detail.Detail.{Detail}
use Rattle.book_model.specs.Words.{Book, Event, IsMadeByCalls, Naming, Records, Rulings, after_all}
use Rattle.book_model.specs.Words.{book_after, details_asked, details_for, details_outcome}
use Rattle.book_model.specs.Words.{first_detail, next_after}
use Rattle.table_model.specs.Readable.{IsReadable}
use Rattle.book_laws.specs.ClosedPeriods.{IsClosed}
use Rattle.book_model.specs.MadeByCalls.{AreMadeOf}

-- What is closed never changes: whatever calls follow, the details of a closed period are answered as
-- they were, also after choices, the second rule of identity and tariffs that come late.
abbrev pub DetailsStay : Type 0
DetailsStay =
    (naming : Naming) (later earlier : List Event) (number : ℕ) (centre : Option (List ℕ))
    → IsMadeByCalls naming (later ++ earlier)
    → IsClosed number (book_after earlier)
    → details_outcome naming number centre (book_after (later ++ earlier))
    ≡ details_outcome naming number centre (book_after earlier)

-- The same of any book that can be read back, whatever calls make of it.
abbrev pub BooksKeepDetails : Type 0
BooksKeepDetails =
    (naming : Naming) (book : Book) (later : List Event) (number : ℕ) (centre : Option (List ℕ))
    → IsReadable naming book → AreMadeOf naming book later → IsClosed number book
    → details_outcome naming number centre (after_all later book)
    ≡ details_outcome naming number centre book

-- Details are read one at a time, those of a centre or all: after those that were read comes the
-- first of the rest.
abbrev pub NextIsNext : Type 0
NextIsNext =
    (naming : Naming) (rulings : Rulings) (records : Records) (centre : Option (List ℕ))
    (read : List Detail) (last : Detail) (rest : List Detail)
    → details_asked centre (details_for naming rulings records) ≡ read ++ last ∷ rest
    → next_after (Some last) (details_asked centre (details_for naming rulings records))
    ≡ first_detail rest
