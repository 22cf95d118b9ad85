-- Clients that are answered while the books are open for others.
pub mod Bursts
