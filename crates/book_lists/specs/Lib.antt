-- Read in this order: answers that are shown, lists that are read one item at a time, the faults,
-- what a writer gains from texts, also from those that are written while books are read, and lists
-- that are written so.
pub mod Shown
pub mod Cursors
pub mod DetailsInTurn
pub mod DisputesInTurn
pub mod ArrivalsInTurn
pub mod TariffsInTurn
pub mod Faults
pub mod Writing
pub mod Streamed
pub mod WrittenLists
