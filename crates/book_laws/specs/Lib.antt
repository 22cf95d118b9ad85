-- Read in this order. Whole histories: how often periods charge a record; what their rows and lines
-- amount to; the lines of a period, each once; what is read of a closed period; the laws; and
-- wrong definitions of a period, which the laws refuse. What is charged for
-- one work. Runs: what a run is, and on which books; the statement of a period; the laws; and what
-- runs do to the journal. Then
-- calls one after another and what they leave, the lists of all periods, how wide the lines of a
-- statement are, the reports on single centres, details, what is kept of them and that they stay,
-- coverage, bills, what credits come to, a table of cost and usage, tariff files, and works that are
-- withheld, credits and tariffs in the place of others; pages, a period's rows by another tariff,
-- and the texts about a closed period that stay. Single records: their lives, and how their prices
-- came about. Single answers: to calls, reports, imports, and lists of requests.
pub mod NetCounts
pub mod PeriodAmounts
pub mod PeriodLines
pub mod ClosedPeriods
pub mod HistoryLaws
pub mod WrongPeriods
pub mod WorkLaws
pub mod Runs
pub mod Statements
pub mod RunLaws
pub mod JournalRuns
pub mod Calls
pub mod CallLaws
pub mod ListLaws
pub mod StatementWidths
pub mod CentreLaws
pub mod DetailLaws
pub mod KeptDetails
pub mod DetailStays
pub mod CoverageLaws
pub mod BillLaws
pub mod BookedLaws
pub mod CheckLaws
pub mod CreditAmounts
pub mod FocusLaws
pub mod TariffLaws
pub mod RulingLaws
pub mod PageLaws
pub mod OtherPriceLaws
pub mod ClosedTexts
pub mod LifeLaws
pub mod ReckoningLaws
pub mod AnswerLaws
pub mod ReportLaws
pub mod ImportLaws
pub mod RunAnswers
