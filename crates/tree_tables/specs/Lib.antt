-- Read in this order: the columns of the rows of the tables, and those of the journal; the trees that hold the tables; what a
-- store shows, and what becomes of it; what a look at the tables answers, and what a step does to
-- them; what is asked of charge rows; rows as code passes them on and gets them back, and
-- what the row of an entry says; what each look answers, and which detail is the next; the records that a later tariff may be for; walks
-- over all records that change them, and passes that do not; and choices as older forms have them.
pub mod Columns
pub mod JournalColumns
pub mod Holds
pub mod Forms
pub mod States
pub mod Steps
pub mod Days
pub mod Stored
pub mod EntriesRead
pub mod Answers
pub mod Details
pub mod LateRecords
pub mod Walks
pub mod Passes
pub mod OldChoices
