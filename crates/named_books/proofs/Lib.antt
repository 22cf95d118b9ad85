-- Calls on books that are kept by their names, one after another.
pub mod ShelfLemmas
