-- Figures of a period, as a ledger answers them by calls that are no event.
use Rattle.std.specs.Prelude.{ℕ, ℤ, Bool, true, false, List, length, None, Result, Ok, Err}
use Rattle.std.specs.List.{last_or}
use Rattle.book_model.specs.declared.fault.LedgerFault.{LedgerFault}
use Rattle.book_model.specs.declared.fault.LedgerFault.TheVariants.{NoSuchPeriod}
use Rattle.book_model.specs.declared.line.Line.{Line}
use Rattle.book_model.specs.declared.row.ChargeRow.{ChargeRow}
use Rattle.book_model.specs.Words.{Book, Naming, Outcome, credits_in, no_event, tariffs_seen}
use Rattle.report_texts.specs.Figures.{figures, figures_with, lines_in, next_begin, number_after}
use Rattle.report_texts.specs.Figures.{record_count, record_count_under, rows_in}
use Rattle.report_texts.specs.declared.dry_runs.TriedRuling.{TriedRuling}
use Rattle.report_texts.specs.declared.figures.Figures.{Figures}
use Rattle.book_reports.specs.declared.figures.OpenPeriod.{OpenPeriod}

-- the period that is open after closes through these days
abbrev pub period_after : List ℤ → OpenPeriod
period_after closes =
    record { number = number_after (length closes); last_close = last_or None closes }

-- the open period of a book
abbrev pub open_in : Book → OpenPeriod
open_in book = period_after book.rulings.closes

abbrev pub open_outcome : Book → Outcome OpenPeriod
open_outcome book = no_event (Ok (open_in book))

-- it is answered that there is no such period
abbrev pub is_missing : {V : Type 0} → Result V LedgerFault → Bool
is_missing (Err NoSuchPeriod) = true
is_missing answer = false

-- the charge rows of a period, none where there is no such period
abbrev pub rows_outcome : ℕ → Book → Outcome (List ChargeRow)
rows_outcome period book = no_event (Ok (rows_in period book))

-- its adjustment lines
abbrev pub lines_outcome : Naming → ℕ → Book → Outcome (List Line)
lines_outcome naming period book = no_event (Ok (lines_in naming period book))

-- how many records a period counts
abbrev pub count_outcome : ℕ → Book → Outcome ℕ
count_outcome period book = no_event (Ok (record_count (rows_in period book)))

-- how many records of some rows a tariff with this first day prices
abbrev pub priced_outcome : ℤ → List ChargeRow → Book → Outcome ℕ
priced_outcome first rows book =
    no_event (Ok (record_count_under first (next_begin first (tariffs_seen book.rulings.tariffs)) rows))

-- how many credits a period has
abbrev pub credit_count_outcome : ℕ → Book → Outcome ℕ
credit_count_outcome period book = no_event (Ok (length (credits_in period book.rulings)))

-- the figures of a period whose charge rows these are
abbrev pub figures_with_outcome :
    Naming → TriedRuling → ℕ → List ChargeRow → Book → Outcome Figures
figures_with_outcome naming ruling period rows book =
    no_event (Ok (figures_with naming ruling period rows book))

-- the figures of a period
abbrev pub figures_outcome : Naming → TriedRuling → ℕ → Book → Outcome Figures
figures_outcome naming ruling period book = no_event (Ok (figures naming ruling period book))
