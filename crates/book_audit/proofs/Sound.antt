-- What an audit says when it says that trees are sound: they hold tables, whose rulings, records,
-- journal and other rows are right, and which are those of a book, with as many rows as its periods
-- have.
pub mod Tables
pub mod Rulings
pub mod Records
pub mod Journal
pub mod Rows
pub mod Counts
pub mod Book
