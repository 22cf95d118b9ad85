-- Walks through trees: which rows one has read by the key that it has come to; and walks over
-- a store that is only looked at meanwhile.
pub mod Keys
pub mod Steps
pub mod Looks
