-- Read in this order: the lines of receipts and of check lists, the names of records as they are
-- spelled, the day of a close, the parts of a bill, which centres are there, the bill as a whole, the
-- days and the rows of a table of cost and usage, the records of a period with their systems and its
-- coverage, pages, the texts of tariffs that were replaced, the text of a record, the texts that books
-- answer, also by another tariff, the figures of a period, a report as a whole, lists that are written
-- while they are read, also those that books may refuse, the sums of what was worked and of coverage,
-- and how long the text of details is.
pub mod ReceiptLines
pub mod CheckLists
pub mod RecordNames
pub mod Shown
pub mod BillWork
pub mod BillLines
pub mod PeriodDays
pub mod HeldBack
pub mod BillTariffs
pub mod BillCredits
pub mod KnownCentres
pub mod Bills
pub mod BillPages
pub mod FocusDays
pub mod FocusReports
pub mod SystemDetails
pub mod SystemsInTurn
pub mod Coverage
pub mod Pages
pub mod ReplacedTexts
pub mod RecordReports
pub mod BookTexts
pub mod WhatIfTexts
pub mod NextTariffs
pub mod Figures
pub mod Reports
pub mod StreamedRulings
pub mod StreamedDisputes
pub mod StreamedJournal
pub mod StreamedDetails
pub mod WorkSums
pub mod CoverageSums
pub mod DetailLengths
