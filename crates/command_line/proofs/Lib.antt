-- The lemmas: what the builders make of the table; that words without a fault have the values of their
-- command, by row, by walk, by level, by word and for the command that is met; what the readers of the
-- matches give; the words of reports; and how words are read.
mod Shared
pub mod KnownLemmas
pub mod RowLemmas
pub mod WalkedRows
pub mod LevelLemmas
pub mod GivenLemmas
pub mod EnteredLemmas
pub mod ReaderLemmas
pub mod ReportLemmas
pub mod ReadLemmas
