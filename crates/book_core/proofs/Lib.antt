-- Work on a ledger, and on the books of a history; what is held under a name or at a key, and the
-- rows and the rulings that ledgers share.
pub mod RulingLemmas
pub mod ListedLemmas
pub mod TransitionLemmas
pub mod ThenLemmas
pub mod InTurnLemmas
pub mod OpenLemmas
pub mod NamedLemmas
pub mod ArrivalLemmas
pub mod ClosesListed
pub mod SubmissionLemmas
pub mod WithholdingLemmas
pub mod FollowLemmas
pub mod EntryLemmas
pub mod IdentityInForce
pub mod GroupLemmas
pub mod KeyedRowLemmas
pub mod ListLimits
pub mod MemoryLemmas
pub mod OpenAnswers
pub mod LastCharges
