-- The lemmas: the first bytes of a dump, what is told of the output, the texts of tariffs, dumps that have
-- to be whole, and how lines are written.
pub mod FirstByteLemmas
pub mod OutputLemmas
pub mod TextLemmas
pub mod CheckLemmas
pub mod ServedLineLemmas
