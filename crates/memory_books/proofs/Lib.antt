pub mod KeptLemmas
pub mod LawLemmas
pub mod ShelfLemmas
