-- Read in this order: the office's limits, what a tariff says, what a record costs by it, and how that
-- comes about. Then the file: its faults and keys, what its tables have at a key, its shifts and its
-- centres, the whole of it, and the entry at which it has a fault. Last what it says of the office,
-- and its tariff beside that.
pub mod Limits
pub mod Terms
pub mod Price
pub mod Reckoning
pub mod Faults
pub mod Document
pub mod Clock
pub mod ShiftEntry
pub mod ShiftConflict
pub mod Prefix
pub mod CentreEntry
pub mod TariffFile
pub mod Entry
pub mod Letterhead
pub mod Headed
