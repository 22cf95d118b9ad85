-- Histories that calls made: each event is the answer to one. And what calls make of any book.
use Rattle.std.specs.Prelude.{◌≡◌, List, [], ◌∷◌, Some, None, Ok}
use Rattle.book_model.specs.declared.answer.Accepted.TheVariants.{Kept}
use Rattle.book_model.specs.declared.answer.Ruled.TheVariants.{Done}
use Rattle.book_model.specs.Records.{Naming, name_of}
use Rattle.book_model.specs.Rulings.{TariffAccepted, TariffReplaced, RecordChosen, WorkWithheld}
use Rattle.book_model.specs.Rulings.{SecondRuleAdopted, CreditGiven}
use Rattle.book_model.specs.Books.{Book, new_book, open_number}
use Rattle.book_model.specs.Events.{Event, RecordKept, PeriodClosed, RulingGiven, after_all}
use Rattle.book_model.specs.Accept.{accept_answer}
use Rattle.book_model.specs.RulingAnswers.{terms_answer, close_answer, record_named, choose_answer}
use Rattle.book_model.specs.RulingAnswers.{adopt_answer, second_rule, replace_answer}
use Rattle.book_model.specs.RulingAnswers.{withhold_answer, credit_answer}
use Rattle.book_model.specs.History.{book_after}

-- The book answers the event Kept or Done. A tariff without a text is the one that new books begin
-- with; a record that is chosen, or whose work is withheld, is the one that is held under its name. Of
-- an import nothing is asked: it is answered by its receipt.
abbrev pub IsAnswered : Naming → Event → Book → Type 0
IsAnswered naming (RecordKept bytes) book = accept_answer naming book bytes ≡ Ok Kept
IsAnswered naming (PeriodClosed said day) book =
    close_answer book.rulings (open_number book) day ≡ Ok Done
IsAnswered naming (RulingGiven said (TariffAccepted (Some text) terms)) book =
    terms_answer book text terms ≡ Ok Done
IsAnswered naming (RulingGiven said (TariffAccepted None terms)) book = book ≡ new_book
IsAnswered naming (RulingGiven said (RecordChosen bytes)) book =
    (choose_answer naming book (name_of naming bytes) ≡ Ok Done)
    × (record_named naming book.held (name_of naming bytes) ≡ Some bytes)
IsAnswered naming (RulingGiven said SecondRuleAdopted) book =
    adopt_answer book.rulings second_rule ≡ Ok Done
IsAnswered naming (RulingGiven said (TariffReplaced text terms)) book =
    replace_answer book text terms ≡ Ok Done
IsAnswered naming (RulingGiven said (WorkWithheld bytes)) book =
    (withhold_answer naming book (name_of naming bytes) ≡ Ok Done)
    × (record_named naming book.held (name_of naming bytes) ≡ Some bytes)
IsAnswered naming (RulingGiven said (CreditGiven centre amount reason)) book =
    credit_answer book.rulings (open_number book) centre amount reason ≡ Ok Done
IsAnswered naming event book = Unit {0}

-- so each event of a history is, by the book that the events before it leave
abbrev pub IsMadeByCalls : Naming → List Event → Type 0
IsMadeByCalls naming [] = Unit {0}
IsMadeByCalls naming (event ∷ older) =
    IsAnswered naming event (book_after older) × IsMadeByCalls naming older

-- Calls made these events of a book, wherever it came from, the newest first: each was answered so
-- by the book that those before it left. A history that calls made is such a list, of new books.
abbrev pub AreMadeOf : Naming → Book → List Event → Type 0
AreMadeOf naming book [] = Unit {0}
AreMadeOf naming book (event ∷ older) =
    IsAnswered naming event (after_all older book) × AreMadeOf naming book older
