-- Read in this order: what a look-up shows, and what a write by key makes of the rows; what a call
-- says of its store; how the entries of a map are kept in the rows of a tree; the rows that begin
-- with a part of a key; a pass over all rows; changes of all rows of a map; and indexes of a map.
pub mod Rows
pub mod Calls
pub mod Layouts
pub mod Runs
pub mod Passes
pub mod Changes
pub mod Indexes
