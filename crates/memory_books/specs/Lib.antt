-- Read in this order: books in a list, each under its name; what is known of a place that keeps them so;
-- files in memory; and the law of the commands there.
pub mod Kept
pub mod MemoryShelf
pub mod Files
pub mod Laws
