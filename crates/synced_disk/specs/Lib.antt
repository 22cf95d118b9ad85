-- What a disk shows that is not synced twice.
pub mod Synced
