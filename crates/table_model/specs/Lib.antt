-- Read in this order: rows that are stored under the number of a period; the tables, and those of a
-- book; what a ledger looks at for a new record, by the book and by the tables; how maps change;
-- one row; one table, a step at a time; the parts of what events do; each event; a history; what is
-- read back from the tables; which rows may differ after a record; and the laws, with those of the
-- names that are counted, of the records that a close posts, and of what is read back of periods.
-- Then the readings:
-- the book that tables determine; books that calls made, and what reading them back rests on; the
-- answers to a record and to a ruling, the lists of a period, which records it counts, its details,
-- the disputes, and the trail of a record, by the tables; the numbers that fit; and the laws, with
-- those of lists at the end.
pub mod PeriodRows
pub mod Tables
pub mod UnderNames
pub mod JournalRows
pub mod TablesOf
pub mod Views
pub mod MapChanges
pub mod RowChanges
pub mod Steps
pub mod TableChanges
pub mod Changed
pub mod TablesAfter
pub mod Journaled
pub mod PeriodLists
pub mod Differences
pub mod Laws
pub mod CountedLaws
pub mod PostedLaws
pub mod PeriodLaws
pub mod JournalRowLaws
pub mod BookIn
pub mod FromCalls
pub mod Readable
pub mod AcceptRead
pub mod RulingsRead
pub mod ListsRead
pub mod CountedRead
pub mod DetailsRead
pub mod DisputesRead
pub mod TrailRead
pub mod Fits
pub mod ReadingLaws
pub mod AnswerLaws
pub mod ListLaws
pub mod Words
