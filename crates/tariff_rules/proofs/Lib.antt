pub mod ReadEachLemmas
pub mod EntryLemmas
pub mod RefusedLemmas
pub mod FaultLemmas
pub mod SearchLemmas
pub mod WeekdayLemmas
pub mod HeadedLemmas
