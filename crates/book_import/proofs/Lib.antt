-- Records that are submitted, and what stops an import; what does not depend on the journal, and
-- what an import says of itself; how a joiner goes through a dump, how the records that a piece
-- completes are gathered, submitted together and counted, how an import ends, and how far it
-- reads; the events that it makes; the book that those leave, what it holds, and the same import
-- again, also after a stop; what a stop says.
pub mod ImportLemmas
pub mod StopLemmas
pub mod ApartLemmas
pub mod SayingLemmas
pub mod ReadingLemmas
pub mod EntryLemmas
pub mod PieceLemmas
pub mod FeedLemmas
pub mod PartLemmas
pub mod GatheringLemmas
pub mod NameLemmas
pub mod GroupLemmas
pub mod AskLemmas
pub mod GroupWork
pub mod GroupStands
pub mod PieceGroupLemmas
pub mod StopFaultLemmas
pub mod EndLemmas
pub mod ReachLemmas
pub mod PiecewiseLemmas
pub mod EventLemmas
pub mod BookLemmas
pub mod NoRulingLemmas
pub mod LawLemmas
pub mod OnceLemmas
pub mod RepeatLemmas
pub mod RetryLemmas
pub mod EntryLawLemmas
