-- Rows, one after the other: what is known by a row; one row more of closes, tariffs, choices,
-- credits, replaced tariffs, records and charge rows; by which entries records came, and the entries;
-- and the records that are counted.
pub mod Columns
pub mod Rulings
pub mod Choices
pub mod KeptRulings
pub mod Records
pub mod Due
pub mod Came
pub mod Journal
pub mod Counted
