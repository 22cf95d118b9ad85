-- Whole histories: what their periods give and take; net counts, one work, and days; wrong
-- definitions; sums over rows and over a period's sets; the amounts of periods; the lines that are
-- read; what calls make of any book; and closed periods. Runs, from these; calls one after another,
-- and what they leave; the lists of all periods; the lines of a statement; single centres; details,
-- which records are counted, what is kept of them, that they stay, and coverage; bills, what a table
-- of cost and usage comes to, that bills stay, their tariffs and the periods of their lines; tariff
-- files; pages; rows by another tariff, and their lines; and the texts about a closed period. Single
-- records: their lives, and how their prices came about. Single answers: to calls, reports, imports,
-- and lists of requests.
mod Words
pub mod LinkedLemmas
pub mod PeriodLemmas
pub mod NetLemmas
pub mod WorkLemmas
pub mod WrongPeriodLemmas
pub mod DatedLemmas
pub mod RowSums
pub mod SetSums
pub mod AmountLemmas
pub mod LineLemmas
pub mod ReadLemmas
pub mod LaterLemmas
pub mod ClosedLemmas
pub mod RunLemmas
pub mod JournalLemmas
pub mod CallLemmas
pub mod ListLemmas
pub mod WidthLemmas
pub mod CentreLemmas
pub mod DetailLemmas
pub mod CountedLemmas
pub mod KeptLemmas
pub mod StayLemmas
pub mod CoverageLemmas
pub mod BillLemmas
pub mod FocusLemmas
pub mod CoverageSums
pub mod HeldBackLemmas
pub mod TariffStays
pub mod TurnStays
pub mod BillStays
pub mod BilledTariffs
pub mod RulingTariffs
pub mod LinePeriods
pub mod BookedLemmas
pub mod LinePartLemmas
pub mod CheckLemmas
pub mod PercentLemmas
pub mod InForceLemmas
pub mod ShiftRows
pub mod BillChecks
pub mod TariffTexts
pub mod CreditSums
pub mod RulingLemmas
pub mod ReplacedStays
pub mod PageLemmas
pub mod OtherPriceLemmas
pub mod OtherWorkLemmas
pub mod OtherWidthLemmas
pub mod ClosedTexts
pub mod LifeLemmas
pub mod ReckoningLemmas
pub mod AnswerLemmas
pub mod ReportLemmas
pub mod ImportLemmas
pub mod ReceiptLemmas
pub mod RunAnswerLemmas
