-- Clients that are answered one after the other from books that are open for all of them.
pub mod BurstLemmas
