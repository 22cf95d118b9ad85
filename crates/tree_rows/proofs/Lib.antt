-- The lemmas: failures after cursors have moved; calls, one after the other; look-ups and new rows;
-- rows that are taken or changed; what look-ups and edits by key are to the map; rows that begin with
-- a part of a key, and how they are read; walks by key, and what they have passed and have left;
-- changes of all values, and of all keys, that are made row by row; the first row from a part of a key
-- on; indexes of a map, their lists, those by a part of a value and a name, and their orders.
pub mod Failing
pub mod Calls
pub mod Maps
pub mod Taking
pub mod Keyed
pub mod Runs
pub mod RunsRead
pub mod Walking
pub mod Passing
pub mod Remaining
pub mod Updating
pub mod Moving
pub mod FromPart
pub mod Indexes
pub mod IndexLists
pub mod PartIndexes
pub mod IndexOrders
