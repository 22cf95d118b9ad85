-- How much a book has.
use Rattle.std.specs.Prelude.{◌≡◌, ◌+◌, ℕ, length, sum_by}
use Rattle.book_model.specs.Words.{Book, Period, all_periods, members, rows_for}
use Rattle.book_audit.specs.declared.audited.Counts.{Counts}

-- how many charge rows a period has, and how many lines: one for each record that it adds or reverses
abbrev pub rows_in : Book → Period → ℕ
rows_in book period = length (rows_for book.rulings period.counted)

abbrev pub lines_in : Period → ℕ
lines_in period = length (members period.added) + length (members period.taken)

-- The book has so many records, tariffs, closes and choices, and all its periods together, the open
-- one too, have so many charge rows and lines.
pub record AreCountsOf (book : Book) (counts : Counts) : Type 0 where
  pub records : counts.records ≡ length (members book.held)
  pub tariffs : counts.tariffs ≡ length book.rulings.tariffs
  pub closes : counts.closes ≡ length book.rulings.closes
  pub choices : counts.choices ≡ length book.rulings.choices
  pub rows : counts.rows ≡ sum_by (rows_in book) (all_periods book)
  pub lines : counts.lines ≡ sum_by lines_in (all_periods book)
