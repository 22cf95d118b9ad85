-- Which commands are known, and what words ask for. Read `Known` and `Requests` first: the others
-- are what `clap` makes of the table, and what its matches have to hold.
pub mod Shapes
pub mod Requests
pub mod Known
pub mod Given
