-- In which layout a dump looks to be, what makes a trial and a check, what is said, lists of names,
-- laws of trials, and the number of each fault.
pub mod LayoutLemmas
pub mod TrialLemmas
pub mod LineLemmas
pub mod ListingLemmas
pub mod PieceLemmas
pub mod CheckLemmas
pub mod MessageLemmas
pub mod NameLemmas
pub mod LawLemmas
pub mod NumberLemmas
