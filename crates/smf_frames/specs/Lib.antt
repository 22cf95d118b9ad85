-- Read in this order: what a segment is, and what a block; how they are laid out in a dump; which
-- segments make a record; which texts are records; why a dump stops; and what its front is: its
-- records and its fault. How a reader finds the front comes after that; then what a joiner holds of
-- a dump that comes in pieces, and what it answers to a piece; the header of a record; and then
-- words of the code alone.
pub mod Number
pub mod Segment
pub mod Block
pub mod Layouts
pub mod Framed
pub mod Group
pub mod Lawful
pub mod Faults
pub mod Longest
pub mod Front
pub mod Joining
pub mod Feeding
pub mod Header
pub mod Texts
pub mod JoinerFields
pub mod JoinerSteps
