-- The lemmas: what is so of a copy of books, and what is told of a session.
pub mod CopyParts
pub mod Told
