-- What is true of the charge rows that a period would have by another tariff.
use Rattle.std.specs.Prelude.{◌≡◌, ◌++◌, ◌∷◌, ℕ, [], true, filter, map, sum_by, List, Some, Ok}
use Rattle.book_model.specs.declared.row.ChargeRow.{ChargeRow}
use Rattle.book_model.specs.Words.{on_every_day, Priced, AcceptedTerms, Book, Event, IsMadeByCalls}
use Rattle.book_model.specs.Words.{Naming, Period, Records, Terms, book_after, charges_outcome}
use Rattle.book_model.specs.Words.{day_of, flat_book, has, in_force, members, no_event, period_of}
use Rattle.book_model.specs.Words.{price_by, price_in, prices, rows_if_room, same_bytes, terms_in}
use Rattle.book_model.specs.Words.{after_all, what_if_outcome}
use Rattle.report_texts.specs.Centres.{rows_of_centre}
use Rattle.table_model.specs.Readable.{IsReadable}
use Rattle.book_laws.specs.ClosedPeriods.{IsClosed}
use Rattle.book_model.specs.MadeByCalls.{AreMadeOf}

-- Each record of a period costs what the tariff says. The rows are those of the same records at the
-- prices of a trial by this tariff, which is then the only one and in force on every day; and the
-- rows' amounts, all of them and those of a centre, come to what the tariff charges for the records
-- and to the centre.
pub record CostsAsSaid : Type 0 where
  pub trial :
      (naming : Naming) (book : Book) (number : ℕ) (terms : Terms) (period : Period)
      → IsReadable naming book
      → period_of book number ≡ Some period
      → what_if_outcome number terms book
      ≡ no_event (rows_if_room (prices (flat_book (on_every_day terms)).rulings period.counted))
  pub total :
      (book : Book) (number : ℕ) (terms : Terms) (period : Period) (rows : List ChargeRow)
      → period_of book number ≡ Some period
      → (what_if_outcome number terms book).answer ≡ Ok rows
      → sum_by (λ row. row.amount) rows
      ≡ sum_by (λ bytes. (price_by terms bytes).amount) (members period.counted)
  pub centre :
      (book : Book) (number : ℕ) (terms : Terms) (period : Period) (rows : List ChargeRow)
      (centre : List ℕ)
      → period_of book number ≡ Some period
      → (what_if_outcome number terms book).answer ≡ Ok rows
      → sum_by (λ row. row.amount) (rows_of_centre centre rows)
      ≡ sum_by (λ bytes. (price_by terms bytes).amount)
      (filter (λ bytes. same_bytes (price_by terms bytes).centre centre) (members period.counted))

-- what some records cost, each by a tariff of its own
abbrev pub costs_by : (List ℕ → Terms) → Records → List Priced
costs_by terms records = map (λ bytes. price_by (terms bytes) bytes) (members records)

-- By the tariffs that gave each record its price, the rows are the statement's, and there is room
-- for them: where each record is priced by the tariff in force on its day; where one tariff gives
-- each the price that it has; and, of books with one tariff, by the text of that tariff, whichever
-- period is asked for.
pub record GivesStatement : Type 0 where
  pub own :
      (naming : Naming) (book : Book) (number : ℕ) (period : Period) (terms : List ℕ → Terms)
      → IsReadable naming book
      → period_of book number ≡ Some period
      → ((bytes : List ℕ) → has period.counted bytes ≡ true
      → in_force (day_of bytes) book.rulings.tariffs ≡ Some (terms bytes))
      → no_event (rows_if_room (costs_by terms period.counted)) ≡ charges_outcome number book
  pub same :
      (naming : Naming) (book : Book) (number : ℕ) (terms : Terms) (period : Period)
      → IsReadable naming book
      → period_of book number ≡ Some period
      → ((bytes : List ℕ) → has period.counted bytes ≡ true
      → price_in book.rulings bytes ≡ Some (price_by terms bytes))
      → what_if_outcome number terms book ≡ charges_outcome number book
  pub only :
      (naming : Naming) (book : Book) (number : ℕ) (tariff : AcceptedTerms) (text : List ℕ)
      (terms : Terms)
      → IsReadable naming book
      → book.rulings.tariffs ≡ tariff ∷ []
      → tariff.text ≡ Some text
      → terms_in text ≡ Ok terms
      → what_if_outcome number terms book ≡ charges_outcome number book

-- rows that count as many records, of the same CPU time and the same blocks
pub record CountSameWork (one other : List ChargeRow) : Type 0 where
  pub count : sum_by (λ row. row.count) one ≡ sum_by (λ row. row.count) other
  pub cpu : sum_by (λ row. row.cpu) one ≡ sum_by (λ row. row.cpu) other
  pub blocks : sum_by (λ row. row.blocks) one ≡ sum_by (λ row. row.blocks) other

-- a tariff charges each record that a period counts to the centre that its price names
pub record NamesSameCentres (book : Book) (period : Period) (terms : Terms) : Type 0 where
  pub centre : (bytes : List ℕ) (priced : Priced) → has period.counted bytes ≡ true
      → price_in book.rulings bytes ≡ Some priced
      → (price_by terms bytes).centre ≡ priced.centre

-- By any tariff the rows are about the same work as the statement, so the totals differ in the
-- amount alone; and so it is for each centre, where the tariff charges each record to the same one.
pub record KeepsWork : Type 0 where
  pub all :
      (naming : Naming) (book : Book) (number : ℕ) (terms : Terms) (rows charged : List ChargeRow)
      → IsReadable naming book
      → (what_if_outcome number terms book).answer ≡ Ok rows
      → (charges_outcome number book).answer ≡ Ok charged
      → CountSameWork rows charged
  pub centre :
      (naming : Naming) (book : Book) (number : ℕ) (terms : Terms) (period : Period)
      (centre : List ℕ) (rows charged : List ChargeRow)
      → IsReadable naming book
      → period_of book number ≡ Some period
      → NamesSameCentres book period terms
      → (what_if_outcome number terms book).answer ≡ Ok rows
      → (charges_outcome number book).answer ≡ Ok charged
      → CountSameWork (rows_of_centre centre rows) (rows_of_centre centre charged)

-- Each record costs what the tariff says; by the tariffs that gave each its price the rows are the
-- statement's; by any tariff they are about the same work as the statement; and of a closed period
-- the answer stays, whatever is ruled or booked later.
pub record WhatIf : Type 0 where
  pub said : CostsAsSaid
  pub given : GivesStatement
  pub work : KeepsWork
  pub closed :
      (naming : Naming) (later earlier : List Event) (number : ℕ) (terms : Terms)
      → IsMadeByCalls naming (later ++ earlier)
      → IsClosed number (book_after earlier)
      → what_if_outcome number terms (book_after (later ++ earlier))
      ≡ what_if_outcome number terms (book_after earlier)

-- So it stays of a closed period of any book that can be read back, whatever calls make of it.
abbrev pub BooksKeepWhatIfs : Type 0
BooksKeepWhatIfs =
    (naming : Naming) (book : Book) (later : List Event) (number : ℕ) (terms : Terms)
    → IsReadable naming book → AreMadeOf naming book later → IsClosed number book
    → what_if_outcome number terms (after_all later book) ≡ what_if_outcome number terms book
