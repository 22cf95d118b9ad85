-- The lemmas, in rooms: walks by key; rows, one after the other; trees that hold tables; what sound
-- means of trees; and what is printed of a finding.
pub mod Walks
pub mod Rows
pub mod Held
pub mod Sound
pub mod FindingLemmas
