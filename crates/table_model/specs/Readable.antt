-- What reading a book back from its tables rests on. Books that calls made have it.
use Rattle.std.specs.Prelude.{◌≡◌, ℕ, zero, suc, ◌≤◌, ◌<◌, true, List, [], ◌∷◌, ◌++◌, length, All}
use Rattle.std.specs.Prelude.{Some, Ok, ℤ, IsUtf8}
use Rattle.book_model.specs.Std.{IsStrictlySortedBy, int_cmp}
use Rattle.book_model.specs.Words.{IsDay, IsPriced, terms_in, total_of, Book, most_held, most_cost}
use Rattle.book_model.specs.Words.{last_period, Period, period_by, Records, Naming, IsUsageRecord}
use Rattle.book_model.specs.Words.{AcceptedTerms, price_in, are_rising, members, has, IsSound}
use Rattle.book_model.specs.Words.{AreDatedThrough, Choice, Credit, most_choices, most_credits}
use Rattle.book_model.specs.Words.{open_number, IsCreditOf, Priced, Replaced, most_replaced}
use Rattle.table_model.specs.PeriodLists.{HasLines}
use Rattle.table_model.specs.BookIn.{close_after}

-- a tariff has a text of characters, which says its terms, and a first day
pub record IsTexted (tariff : AcceptedTerms) : Type 0 where
  pub text : List ℕ
  pub is : tariff.text ≡ Some text
  pub characters : IsUtf8 text
  pub said : terms_in text ≡ Ok tariff.terms
  pub day : IsDay tariff.terms.effective

-- this many periods, each made of what was charged before it and at its end
abbrev pub chained : ℕ → List ℤ → (ℕ → Records) → List Period
chained zero closes charged = []
chained (suc k) closes charged =
    chained k closes charged
    ++ period_by (close_after k closes) (charged k) (charged (suc k)) ∷ []

-- What the closes charged, where the first number is that of no close: the closed periods were made
-- of it, and none of it is dated after its close.
pub record IsChain (book : Book) : Type 0 where
  pub charged : ℕ → Records
  pub past : book.past ≡ chained (length book.rulings.closes) book.rulings.closes charged
  pub posted : book.posted ≡ charged (length book.rulings.closes)
  pub dated : (k : ℕ) → k ≤ length book.rulings.closes
      → AreDatedThrough (close_after k book.rulings.closes) (charged k)

-- the number is that of a period which has begun: the open one, or an earlier one
pub record IsBegun (book : Book) (period : ℕ) : Type 0 where
  pub numbered : 0 < period
  pub begun : period ≤ open_number book

-- a choice was made in a period that has begun
abbrev pub IsTimely : Book → Choice → Type 0
IsTimely book choice = IsBegun book choice.period

-- a credit was given in a period that has begun, as a call submits one
pub record IsCredited (book : Book) (credit : Credit) : Type 0 where
  pub begun : IsBegun book credit.period
  pub said : IsCreditOf credit.centre credit.amount credit.reason

-- a tariff was replaced in a period that has begun, and came as a text
pub record IsReplaced (book : Book) (replaced : Replaced) : Type 0 where
  pub begun : IsBegun book replaced.period
  pub texted : IsTexted replaced.tariff

-- the books are within the office's limits
pub record IsWithinLimits (book : Book) : Type 0 where
  pub held : length (members book.held) ≤ most_held
  pub cost : total_of book.rulings book.held ≤ most_cost
  pub closes : length book.rulings.closes < last_period
  pub choices : length book.rulings.choices ≤ most_choices
  pub credits : length book.rulings.credits ≤ most_credits
  pub replaced : length book.rulings.replaced ≤ most_replaced

-- The book is sound and its lines can be read; the records measure work and their prices are within
-- the limits; the tariffs are known by their texts and in order; the closes are days and in order;
-- choices were made, and the second rule of identity was adopted, if it was, in periods that have
-- begun; the closed periods are linked; and the book is within the limits.
pub record IsReadable (naming : Naming) (book : Book) : Type 0 where
  pub sound : IsSound naming book
  pub lines : HasLines book
  pub usage : (bytes : List ℕ) → has book.held bytes ≡ true → IsUsageRecord bytes
  pub priced : (bytes : List ℕ) (priced : Priced) → has book.held bytes ≡ true
      → price_in book.rulings bytes ≡ Some priced → IsPriced priced
  pub texts : All IsTexted book.rulings.tariffs
  pub rising : are_rising book.rulings.tariffs ≡ true
  pub days : All IsDay book.rulings.closes
  pub in_order : IsStrictlySortedBy int_cmp book.rulings.closes
  pub timely : All (IsTimely book) book.rulings.choices
  pub adopted : (period : ℕ) → book.rulings.adopted ≡ Some period → IsBegun book period
  pub past : IsChain book
  pub replaced : All (IsReplaced book) book.rulings.replaced
  pub credited : All (IsCredited book) book.rulings.credits
  pub limits : IsWithinLimits book
