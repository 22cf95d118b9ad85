-- Books that calls made.
use Rattle.std.specs.Prelude.{◌≡◌, ℕ, true, List, [], ◌∷◌, Some, None, Ok, IsUtf8}
use Rattle.book_model.specs.Words.{IsDay, IsPriced, terms_in, Terms, IsMadeByCalls, Book, Event}
use Rattle.book_model.specs.Words.{RecordKept, PeriodClosed, RulingGiven, TariffAccepted}
use Rattle.book_model.specs.Words.{book_after, Naming, IsUsageRecord, Records, Rulings, has}
use Rattle.book_model.specs.Words.{price_in, with_tariff, Priced, CreditGiven, TariffReplaced}
use Rattle.book_model.specs.Words.{IsCreditOf, with_replaced}

-- A record that a call submits: it measures work, and its price is within the limits.
pub record IsSubmitted (rulings : Rulings) (bytes : List ℕ) : Type 0 where
  pub usage : IsUsageRecord bytes
  pub priced : (priced : Priced) → price_in rulings bytes ≡ Some priced → IsPriced priced

-- A tariff that a call submits: its text is of characters, and says its terms, from a day on.
pub record IsReadFrom (text : List ℕ) (terms : Terms) : Type 0 where
  pub characters : IsUtf8 text
  pub said : terms_in text ≡ Ok terms
  pub day : IsDay terms.effective

-- what held records cost by some rulings is within the limits of a price
abbrev pub ArePriced : Rulings → Records → Type 0
ArePriced rulings held =
    (bytes : List ℕ) (priced : Priced) → has held bytes ≡ true
    → price_in rulings bytes ≡ Some priced → IsPriced priced

-- A call submits the event to a book: no tariff comes without its text, nor makes the price of a
-- held record exceed its limits; and periods are closed through days. For the choice of a record
-- and for the adoption of a rule nothing more is required than that they were answered so.
abbrev pub IsSubmittedTo : Book → Event → Type 0
IsSubmittedTo book (RecordKept bytes) = IsSubmitted book.rulings bytes
IsSubmittedTo book (PeriodClosed said day) = IsDay day
IsSubmittedTo book (RulingGiven said (TariffAccepted (Some text) terms)) =
    IsReadFrom text terms × ArePriced (with_tariff (Some text) terms book.rulings) book.held
IsSubmittedTo book (RulingGiven said (TariffAccepted None terms)) = ⊥
IsSubmittedTo book (RulingGiven said (TariffReplaced text terms)) =
    IsReadFrom text terms × ArePriced (with_replaced text terms book.rulings) book.held
IsSubmittedTo book (RulingGiven said (CreditGiven centre amount reason)) =
    IsCreditOf centre amount reason
IsSubmittedTo book event = Unit {0}

-- each event of a history was submitted to the book before it
abbrev pub AreSubmitted : List Event → Type 0
AreSubmitted [] = Unit {0}
AreSubmitted (event ∷ older) = IsSubmittedTo (book_after older) event × AreSubmitted older

-- The book is the one that a history of calls leaves, from new books on.
pub record IsFromCalls (naming : Naming) (book : Book) : Type 0 where
  pub history : List Event
  pub answered : IsMadeByCalls naming history
  pub submitted : AreSubmitted history
  pub left : book ≡ book_after history
