-- Files that were just opened are synced.
pub mod FreshLemmas
