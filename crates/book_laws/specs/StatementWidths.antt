-- How wide the lines of a statement are.
use Rattle.std.specs.Prelude.{◌≡◌, ℕ, true, All, List, length, Some, Ok}
use Rattle.book_model.specs.declared.row.ChargeRow.{ChargeRow}
use Rattle.book_model.specs.Words.{Book, IsPriced, Naming, Period, Terms, charges_outcome, has}
use Rattle.book_model.specs.Words.{period_of, price_by, what_if_outcome}
use Rattle.report_texts.specs.Statements.{heading, row_line, total_line}
use Rattle.table_model.specs.Readable.{IsReadable}

-- a line of a statement: 114 characters, and its end
abbrev pub line_length : ℕ
line_length = 115

-- each line after the first has that length, in the statement of a period that has these rows
pub record AreAligned (rows : List ChargeRow) : Type 0 where
  pub above : length heading ≡ line_length
  pub each : All (λ row. length (row_line row) ≡ line_length) rows
  pub below : length (total_line rows) ≡ line_length

-- This holds for the rows of any period of books that can be read back, as those are that calls made:
-- the office's limits keep each number within its column.
abbrev pub StatementsAreAligned : Type 0
StatementsAreAligned =
    (naming : Naming) (book : Book) (number : ℕ) (rows : List ChargeRow)
    → IsReadable naming book → (charges_outcome number book).answer ≡ Ok rows → AreAligned rows

-- It holds as well of the rows of such a period by another tariff, where the prices by it that are
-- summed are within the limits of a price, as those of any tariff file are.
abbrev pub WhatIfsAreAligned : Type 0
WhatIfsAreAligned =
    (naming : Naming) (book : Book) (number : ℕ) (terms : Terms) (period : Period)
    (rows : List ChargeRow)
    → IsReadable naming book
    → period_of book number ≡ Some period
    → ((bytes : List ℕ) → has period.counted bytes ≡ true → IsPriced (price_by terms bytes))
    → (what_if_outcome number terms book).answer ≡ Ok rows → AreAligned rows
