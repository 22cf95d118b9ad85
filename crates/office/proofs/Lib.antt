-- One request to the books, as work; what work leaves of an open ledger; the laws; requests one after
-- another; choices one after another; and works that are withheld together.
pub mod AskLemmas
pub mod LeavingLemmas
pub mod LawLemmas
pub mod RunLemmas
pub mod ChoiceLemmas
pub mod WithholdingLemmas
pub mod ImportWorkLemmas
