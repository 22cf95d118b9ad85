-- Read in this order: what the tests show; the way of a reader, and what a loop keeps of it; where
-- ways end; how segments join; that each text of groups has its way, and each way its groups; that
-- the reader so finds the front; and that a fault at a descriptor stays. Then a joiner, which gets
-- the dump in pieces: where it waits, how it continues, after which bytes it stands; what its
-- fields show; what it answers to a piece, step by step; and that this leaves it no choice.
pub mod DescriptorNumbers
pub mod Steps
pub mod ReaderWays
pub mod SplitLoop
pub mod WayEnds
pub mod JoinedGroups
pub mod BegunGroups
pub mod GroupedTexts
pub mod LongerTexts
pub mod TakenGroups
pub mod Fronts
pub mod LastingFaults
pub mod ReaderWaits
pub mod JoinerAdvance
pub mod JoinerStates
pub mod HeldFields
pub mod PassedFields
pub mod OneStep
pub mod FeedSteps
pub mod FeedTakes
pub mod FeedFails
pub mod FeedDetermined
