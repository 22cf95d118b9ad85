-- The table of a period, whose parts are read from one book.
use Rattle.std.proofs.Common.{◌≡◌, ℕ, ℤ, List, Option, Some, None, Ok, Err}
use Rattle.std.proofs.Common.{ok_or, option_map}
use Rattle.book_model.specs.Words.{Book, Naming, Period, adjustments_outcome, charges_outcome}
use Rattle.book_model.specs.Words.{lines_of, period_of, periods_outcome, rows_for}
use Rattle.book_reports.specs.declared.bill_tariffs.KeptTariffs.{KeptTariffs}
use Rattle.book_reports.proofs.Words.{LedgerFault, NoSuchPeriod, Line, ChargeRow, same_value}
use Rattle.book_reports.proofs.Words.{tariffs_outcome, tariffs_shown}
use Rattle.book_reports.specs.FocusReports.{focus_of, focus_outcome, focus_with}
use Rattle.book_reports.proofs.BillLemmas.{unanswered}

module _ (naming : Naming) (number : ℕ) (book : Book) where
  -- where its rows or its lines are refused, the table is
  pub focus_unrowed : (fault : LedgerFault) → (charges_outcome number book).answer ≡ Err fault
      → (focus_outcome naming number book).answer ≡ Err fault
  focus_unrowed fault is =
      unanswered (λ period. rows_for book.rulings period.counted) (focus_of naming book number)
      (period_of book number) fault is

  pub focus_unlined : (fault : LedgerFault)
      → (adjustments_outcome naming number book).answer ≡ Err fault
      → (focus_outcome naming number book).answer ≡ Err fault
  focus_unlined fault is =
      unanswered (lines_of naming book.rulings) (focus_of naming book number)
      (period_of book number) fault is

  -- the table of all parts is what a book answers that answered these
  pub focus_known : (closes : List ℤ) (kept : KeptTariffs) (rows : List ChargeRow)
      (lines : List Line) → (periods_outcome book).answer ≡ Ok closes
      → (tariffs_outcome number book).answer ≡ Ok (tariffs_shown kept)
      → (charges_outcome number book).answer ≡ Ok rows
      → (adjustments_outcome naming number book).answer ≡ Ok lines
      → (focus_outcome naming number book).answer
      ≡ Ok (focus_with number closes (tariffs_shown kept) rows lines)
  focus_known closes kept rows lines closed keeps = by (period_of book number)
    where
      by : (found : Option Period)
          → ok_or (option_map (λ period. rows_for book.rulings period.counted) found) NoSuchPeriod
          ≡ Ok rows
          → ok_or (option_map (lines_of naming book.rulings) found) NoSuchPeriod ≡ Ok lines
          → ok_or (option_map (focus_of naming book number) found) NoSuchPeriod
          ≡ Ok (focus_with number closes (tariffs_shown kept) rows lines)
      by None rowed lined = cc rowed
      by (Some period) rowed lined =
          let of_closes = same_value closed in
          let of_tariffs = same_value keeps in
          let of_rows = same_value rowed in
          let of_lines = same_value lined in
          λ i. Ok (focus_with number (of_closes i) (of_tariffs i) (of_rows i) (of_lines i))
