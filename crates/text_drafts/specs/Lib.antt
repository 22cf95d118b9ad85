-- What a table has, while it is written.
pub mod Tables
