-- Read in this order: sets and records; days beside those of closes; what the office ruled, and what
-- a record costs by it; which records are undisputed and charged; what a period is, and the rows,
-- lines and disputes that are read, and the rows by another tariff; the book, which records it
-- counts, and the events that change it; what is answered to a record and to a ruling, how rulings
-- are listed, how books are asked for them, and what each call is; the details of a period; the life
-- of a record and its trail; the bill of a period, and which centres are there; what a whole history
-- defines, which histories calls make, and how a history is cut at its rulings; what is always true
-- of a book; and laws. Then the answers and the faults of a ledger. The journal stands before the
-- book, its entries as they are read, and by which of them each record came, behind the calls, and
-- what imports say of themselves, with the laws of the journal, last.
pub mod Sets
pub mod Records
pub mod Limits
pub mod CloseDays
pub mod Rulings
pub mod Charged
pub mod Periods
pub mod Rows
pub mod OtherPrices
pub mod Lines
pub mod Disputes
pub mod Journal
pub mod Books
pub mod Counted
pub mod Events
pub mod Accept
pub mod RulingAnswers
pub mod RulingLists
pub mod RulingsAsked
pub mod Outcomes
pub mod JournalLists
pub mod Arrivals
pub mod Details
pub mod Lives
pub mod Trails
pub mod Bills
pub mod KnownCentres
pub mod History
pub mod MadeByCalls
pub mod RecordBatches
pub mod Sound
pub mod Laws
pub mod Answers
pub mod Faults
pub mod Notes
pub mod ListedEntries
pub mod JournalLaws
pub mod Words
pub mod Std
