-- A period as a table of cost and usage by FOCUS 1.0, as a book answers it.
use Rattle.std.specs.Prelude.{ℕ, ℤ, List, [], Result, ok_or, option_map, unwrap_or}
use Rattle.book_model.specs.declared.fault.LedgerFault.{LedgerFault}
use Rattle.book_model.specs.declared.fault.LedgerFault.TheVariants.{NoSuchPeriod}
use Rattle.book_model.specs.declared.line.Line.{Line}
use Rattle.book_model.specs.declared.row.ChargeRow.{ChargeRow}
use Rattle.book_model.specs.Words.{Book, LetterheadSeen, Naming, Outcome, Period, lines_of, no_event}
use Rattle.book_model.specs.Words.{period_of, rows_for, tariffs_in}
use Rattle.report_texts.specs.FocusTables.{HeadSeen, focus_rows, focus_table}
use Rattle.book_reports.specs.declared.focus_days.FocusDays.{FocusDays}
use Rattle.book_reports.specs.BillTariffs.{TariffsBilled, tariffs_billed}
use Rattle.book_reports.specs.FocusDays.{focus_days}

-- who bills, and for which days; what a letterhead leaves out is empty
abbrev pub focus_head : LetterheadSeen → FocusDays → HeadSeen
focus_head letterhead days = record {
  office = unwrap_or letterhead.office [];
  currency = unwrap_or letterhead.currency [];
  begins = days.begins;
  last = days.last;
}

-- the table of a period of this number, by the days of all closes, its tariffs, rows and lines
abbrev pub focus_with : ℕ → List ℤ → TariffsBilled → List ChargeRow → List Line → List ℕ
focus_with number closes billed rows lines =
    focus_table (focus_head billed.letterhead (focus_days number closes billed.tariffs rows))
    (focus_rows rows lines)

-- that of a period of a book
abbrev pub focus_of : Naming → Book → ℕ → Period → List ℕ
focus_of naming book number period =
    focus_with number book.rulings.closes (tariffs_billed (tariffs_in number book.rulings))
    (rows_for book.rulings period.counted) (lines_of naming book.rulings period)

-- what a book answers to it, which is no event
abbrev pub focus_answer : Naming → ℕ → Book → Result (List ℕ) LedgerFault
focus_answer naming number book =
    ok_or (option_map (focus_of naming book number) (period_of book number)) NoSuchPeriod

abbrev pub focus_outcome : Naming → ℕ → Book → Outcome (List ℕ)
focus_outcome naming number book = no_event (focus_answer naming number book)
