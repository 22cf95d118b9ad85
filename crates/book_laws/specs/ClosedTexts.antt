-- The law of the texts about a closed period that never change. Its page is none of them: it shows
-- what is in dispute now.
use Rattle.std.specs.Prelude.{◌≡◌, ℕ, List, ◌++◌, Option, Result}
use Rattle.book_model.specs.declared.fault.LedgerFault.{LedgerFault}
use Rattle.book_model.specs.Words.{Book, Event, IsMadeByCalls, Naming, after_all, book_after}
use Rattle.table_model.specs.Readable.{IsReadable}
use Rattle.book_reports.specs.declared.report.PeriodReport.{PeriodReport}
use Rattle.book_reports.specs.declared.report.Report.TheVariants.{Bill, BillPage, OfPeriod}
use Rattle.book_reports.specs.declared.streamed_details.DetailReport.{DetailReport}
use Rattle.book_reports.specs.declared.what_if.StatementForm.{StatementForm}
use Rattle.book_reports.specs.declared.what_if.WhatIf.{WhatIf}
use Rattle.book_reports.specs.BookTexts.{report_answer}
use Rattle.book_reports.specs.StreamedDetails.{detail_answer}
use Rattle.book_reports.specs.WhatIfTexts.{what_if_report}
use Rattle.book_laws.specs.ClosedPeriods.{IsClosed}
use Rattle.book_model.specs.MadeByCalls.{AreMadeOf}

-- what books answer once a period is closed, they answer whatever calls follow
abbrev pub IsFinal : Naming → ℕ → (Book → Result (List ℕ) LedgerFault) → Type 0
IsFinal naming number answer =
    (later earlier : List Event) → IsMadeByCalls naming (later ++ earlier)
    → IsClosed number (book_after earlier)
    → answer (book_after (later ++ earlier)) ≡ answer (book_after earlier)

-- the same of any book that can be read back, whatever calls make of it
abbrev pub IsFinalInBooks : Naming → ℕ → (Book → Result (List ℕ) LedgerFault) → Type 0
IsFinalInBooks naming number answer =
    (book : Book) (later : List Event) → IsReadable naming book → AreMadeOf naming book later
    → IsClosed number book → answer (after_all later book) ≡ answer book

-- So it is with these texts about a closed period, of the office and of each centre, as a list and as
-- a table: its statement and its adjustments, its bill, also as a page, its details, and what it would
-- have cost by another tariff; also after choices, the second rule of identity and tariffs that come late.
pub record TextsStay (Final : Naming → ℕ → (Book → Result (List ℕ) LedgerFault) → Type 0)
    : Type 0 where
  pub reports :
      (naming : Naming) (report : PeriodReport) (number : ℕ) (centre : Option (List ℕ))
      → Final naming number (report_answer naming (OfPeriod report number centre))
  pub bills :
      (naming : Naming) (form : StatementForm) (number : ℕ) (centre : Option (List ℕ))
      → Final naming number (report_answer naming (Bill form number centre))
  pub bill_pages :
      (naming : Naming) (number : ℕ) (centre : Option (List ℕ))
      → Final naming number (report_answer naming (BillPage number centre))
  pub details :
      (naming : Naming) (wanted : DetailReport)
      → Final naming wanted.period (detail_answer wanted naming)
  pub what_ifs :
      (naming : Naming) (asked : WhatIf) (tariff : List ℕ)
      → Final naming asked.period (λ book. (what_if_report asked tariff book).answer)

-- they stay in histories, and in any book that can be read back
abbrev pub ClosedTextsStay : Type 0
ClosedTextsStay = TextsStay IsFinal

abbrev pub BooksKeepTexts : Type 0
BooksKeepTexts = TextsStay IsFinalInBooks
