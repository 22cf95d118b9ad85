-- Requests, one after the other, on one ledger: each has the answer that the book before it
-- defines, and where that is the book of a history, the whole history.
use Rattle.std.specs.Prelude.{◌≡◌, false, List, [], ◌∷◌, ◌++◌, Result, Err}
use Rattle.streams.specs.InputOutput.{Input}
use Rattle.book_model.specs.declared.fault.LedgerFault.{LedgerFault}
use Rattle.book_model.specs.Words.{Book, IsMadeByCalls, Event, after_all, book_after, book_of}
use Rattle.book_model.specs.Words.{Naming, record_batches, rulings_in}
use Rattle.book_core.specs.Ledgers.{Seen, IsOpenAt, books}
use Rattle.book_model.specs.JournalLaws.{without_notes}
use Rattle.office.specs.declared.request.Asked.{Asked}
use Rattle.office.specs.declared.request.Asked.TheVariants.{Import, ImportBytes}
use Rattle.office.specs.declared.request.Answer.{Answer}
use Rattle.office.specs.Requests.{Dump, Gives, Asks, IsAsked, response_by}
use Rattle.office.specs.Outcomes.{asked_outcome, is_hindered}

-- no store has failed, and what the ledger is stored on returned what was written
pub record IsStillOpen (seen : Seen) : Type 0 where
  pub is_open : seen.must_reopen ≡ false
  pub honest : seen.is_honest

-- How two histories may differ: they have the same rulings in the same order, and the same sets of
-- accepted records between neighbouring rulings.
pub record DiffersAsAllowed (one other : List Event) : Type 0 where
  pub rulings : rulings_in one ≡ rulings_in other
  pub between : record_batches one ≡ record_batches other

-- a request, what it was answered, the ledger after it, and its reader
pub record Exchange (L : Type 0) : Type 0 where
  pub asked : Asked
  pub answer : Result Answer LedgerFault
  pub after : L
  pub input : Input

-- the ledger after all of them
abbrev pub ledger_after : {L : Type 0} → L → List (Exchange L) → L
ledger_after before [] = before
ledger_after before (exchange ∷ later) = ledger_after exchange.after later

-- each kept its contract on the ledger that the one before it left
abbrev pub AreAnswered : {L : Type 0} → (L → Seen) → L → List (Exchange L) → Type 0
AreAnswered seen before [] = Unit {0}
AreAnswered seen before (exchange ∷ later) =
    IsAsked exchange.asked exchange.answer (books seen before exchange.after) exchange.input
    × AreAnswered seen exchange.after later

-- the events of a request, without what an import said of itself
abbrev pub but_for_entries : Asked → List Event → List Event
but_for_entries (Import layout said) made = without_notes made
but_for_entries (ImportBytes layout bytes said) made = without_notes made
but_for_entries asked made = made

-- Of a book this was asked and answered, and it made these events, the newest first; a refusal made
-- none. Unless a lack of memory or the store hindered it, the answer is what the definitions say of
-- the book, and so are the events, but for what an import said of itself.
pub record IsAnsweredOf {L : Type 0} (naming : Naming) (book : Book) (exchange : Exchange L)
    (made : List Event) : Type 0 where
  pub dump : Dump
  pub given : Gives exchange.asked dump (response_by exchange.answer) exchange.input
  pub work : Asks naming exchange.asked dump (response_by exchange.answer) false book made false
  pub unmade : (fault : LedgerFault) → response_by exchange.answer ≡ Err fault → made ≡ []
  pub is : is_hindered (response_by exchange.answer) ≡ false
      → asked_outcome naming exchange.asked dump book
      ≡ record {
        told = response_by exchange.answer;
        events = but_for_entries exchange.asked made;
      }

-- so was each, of the book that those before it left,
abbrev pub AreAnsweredOf : {L : Type 0} → Naming → Book → List (Exchange L) → Book → Type 0
AreAnsweredOf naming book [] end = end ≡ book
AreAnsweredOf naming book (exchange ∷ later) end =
    (made : List Event) × IsAnsweredOf naming book exchange made
    × AreAnsweredOf naming (after_all made book) later end

-- and the ledger is open at the book that all of it left
pub record FollowBook {L : Type 0} (naming : Naming) (start : Book) (exchanges : List (Exchange L))
    (after : Seen) : Type 0 where
  pub end : Book
  pub told : AreAnsweredOf naming start exchanges end
  pub left : IsOpenAt naming end after

-- Whatever is asked of any book, wherever it came from, each answer is the one that the definitions
-- give for that book, with what was made of it since.
abbrev pub AnswersFollowBook : {L : Type 0} → (L → Seen) → Type 0
AnswersFollowBook {L} seen =
    (naming : Naming) (start : Book) (before : L) (exchanges : List (Exchange L))
    → IsOpenAt naming start (seen before)
    → AreAnswered seen before exchanges → IsStillOpen (seen (ledger_after before exchanges))
    → FollowBook naming start exchanges (seen (ledger_after before exchanges))

-- After a history this was asked and answered of its book, looked at as a whole; and calls made the
-- history that goes on with what it made.
pub record IsAnsweredAfter {L : Type 0} (naming : Naming) (history : List Event)
    (exchange : Exchange L) (made : List Event) : Type 0 where
  pub said : IsAnsweredOf naming (book_of history) exchange made
  pub answered : IsMadeByCalls naming (made ++ history)

-- so was each, after the history that goes on with what those before it made,
abbrev pub AreAnsweredAfter : {L : Type 0} → Naming → List Event → List (Exchange L) → List Event
    → Type 0
AreAnsweredAfter naming history [] end = end ≡ history
AreAnsweredAfter naming history (exchange ∷ later) end =
    (made : List Event) × IsAnsweredAfter naming history exchange made
    × AreAnsweredAfter naming (made ++ history) later end

-- and the ledger is open at the books of the history with all of it
pub record FollowHistory {L : Type 0} (naming : Naming) (start : List Event)
    (exchanges : List (Exchange L)) (after : Seen) : Type 0 where
  pub end : List Event
  pub told : AreAnsweredAfter naming start exchanges end
  pub left : IsOpenAt naming (book_after end) after

-- The headline: whatever is asked of the books of a history that calls made, new books if that is
-- empty, each answer is the one that the definitions give for the whole history.
abbrev pub AnswersFollowHistory : {L : Type 0} → (L → Seen) → Type 0
AnswersFollowHistory {L} seen =
    (naming : Naming) (start : List Event) (before : L) (exchanges : List (Exchange L))
    → IsMadeByCalls naming start → IsOpenAt naming (book_after start) (seen before)
    → AreAnswered seen before exchanges → IsStillOpen (seen (ledger_after before exchanges))
    → FollowHistory naming start exchanges (seen (ledger_after before exchanges))

-- The same is asked of two ledgers, with the same dump, after histories that differ as allowed:
-- both give the same answer, unless something hindered one.
abbrev pub AnswersAreFree : {L M : Type 0} → (L → Seen) → (M → Seen) → Type 0
AnswersAreFree {L} {M} seen seen_other =
    (naming : Naming) (history other : List Event) (one : Exchange L) (two : Exchange M)
    (made made_other : List Event) (first : IsAnsweredAfter naming history one made)
    (second : IsAnsweredAfter naming other two made_other)
    → DiffersAsAllowed history other → one.asked ≡ two.asked → first.said.dump ≡ second.said.dump
    → is_hindered (response_by one.answer) ≡ false
    → is_hindered (response_by two.answer) ≡ false
    → response_by one.answer ≡ response_by two.answer
