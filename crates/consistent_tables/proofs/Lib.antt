-- What the laws of consistent tables rest on. Read in this order: the entries of a map, and the
-- period of a day; the rows and the records that are held, and the lines of a record; what was
-- charged at the end of each period, and how the periods are linked; that the book is sound; that its
-- records and choices are those of the tables; the rulings; the journal; and that it can be read back. Then, of
-- a book that can be read back: what the lines of a record tell; the rows that are counted and their
-- names, and the charge rows; the rows and the lines, and all tables. And last the lines of
-- consistent tables, and all of them.
pub mod Entries
pub mod ClosePeriods
pub mod HeldRows
pub mod ChargedSets
pub mod PeriodLinks
pub mod SoundTables
pub mod RecordTable
pub mod RuledTables
pub mod JournalTable
pub mod ReadableBook
pub mod ChainTold
pub mod CountedRows
pub mod DayTable
pub mod ReadableRows
pub mod JournalOwn
pub mod ReadableTables
pub mod LineTable
pub mod Tables
