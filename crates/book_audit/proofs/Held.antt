-- Trees that hold tables: rows that are those of a map, or of an index of it; and what look-ups,
-- and rulings that were read, are in the tables.
pub mod Pigeonhole
pub mod Maps
pub mod Looks
pub mod LastPassing
pub mod Rulings
