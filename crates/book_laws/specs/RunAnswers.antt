-- The law of lists of requests: each has one answer, and they leave one book.
use Rattle.std.specs.Prelude.{◌≡◌, false, All, List, [], ◌∷◌, Result}
use Rattle.book_model.specs.declared.fault.LedgerFault.{LedgerFault}
use Rattle.book_model.specs.Words.{Naming, Book, Event, after_all}
use Rattle.book_core.specs.Words.{Books, Seen, IsOpenAt, books, IsTransition}
use Rattle.office.specs.declared.request.Asked.{Asked}
use Rattle.office.specs.declared.request.Answer.{Answer}
use Rattle.office.specs.Outcomes.{asked_outcome, is_hindered}
use Rattle.office.specs.Laws.{IsStillOpen, but_for_entries}
use Rattle.office.specs.Requests.{response_by}
use Rattle.office.specs.Runs.{Runs, dump_here}

-- Requests were answered one after another, each as the definitions say of the book before it, and
-- this is the book after them. What a request made is what the definitions say too, but for what an
-- import says of itself.
abbrev pub AreAsDefined : Naming → List Asked → List (Result Answer LedgerFault) → Book → Book
    → Type 0
AreAsDefined naming [] [] start end = end ≡ start
AreAsDefined naming (asked ∷ requests) (answer ∷ answers) start end =
    (made : List Event)
    × (asked_outcome naming asked (dump_here asked) start
    ≡ record { told = response_by answer; events = but_for_entries asked made })
    × AreAsDefined naming requests answers (after_all made start) end
AreAsDefined naming requests answers start end = ⊥

-- Requests were run on a ledger that was open with this book, and is open now, on a store that is
-- honest to the end. Neither a lack of memory nor the store hindered one.
pub record IsUnhinderedRun (naming : Naming) (start : Book) (books : Books) (requests : List Asked)
    (answers : List (Result Answer LedgerFault)) : Type 0 where
  pub opened : IsOpenAt naming start books.old
  pub still : IsStillOpen books.new
  pub work : IsTransition books.old books.new (Runs books.old.naming requests answers)
  pub free : All (λ answer. is_hindered (response_by answer) ≡ false) answers

-- the answers are those of the definitions, and the ledger is open with the book after them
pub record RunsAsDefined (naming : Naming) (start : Book) (new : Seen) (requests : List Asked)
    (answers : List (Result Answer LedgerFault)) : Type 0 where
  pub end : Book
  pub told : AreAsDefined naming requests answers start end
  pub left : IsOpenAt naming end new

-- This holds for all requests, including imports.
abbrev pub OneRun : {L : Type 0} → (L → Seen) → Type 0
OneRun {L} seen =
    (naming : Naming) (start : Book) (old new : L) (requests : List Asked)
    (answers : List (Result Answer LedgerFault))
    → IsUnhinderedRun naming start (books seen old new) requests answers
    → RunsAsDefined naming start (seen new) requests answers
