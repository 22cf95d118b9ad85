-- Read in this order: names that books must not have; what a log is seen to be; what the faults of
-- files mean; what is told of a session once the files are dropped; what is so of a copy.
pub mod Names
pub mod Logs
pub mod Faults
pub mod Releases
pub mod Copies
