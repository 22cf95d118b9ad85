-- Read in this order: the standard's numbers; where a record of work has its sections and its
-- accounting fields; what it says; of what class a record is; and how damages are numbered. The
-- last two files serve the code alone.
pub mod Layout
pub mod Section
pub mod Accounts
pub mod Usage
pub mod Class
pub mod Damage
pub mod SectionBytes
pub mod AccountWalk
