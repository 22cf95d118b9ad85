-- Figures are read up to their point; and each row of a bill stands in its text and on its page.
pub mod GroupedLemmas
pub mod StandLemmas
pub mod TextRows
pub mod PageRows
pub mod AlikeLemmas
