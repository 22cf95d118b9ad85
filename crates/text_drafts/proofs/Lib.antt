-- A step of the two proofs by hand.
pub mod Walks
