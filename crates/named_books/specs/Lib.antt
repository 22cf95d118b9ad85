-- What is done to books that are kept by their names.
pub mod Shelves
