-- Read in this order: what may be found of files after a session; how they were opened for it;
-- books to which nothing was submitted; what faults mean; why a session has no answer; what is left
-- where new books are made, of any store of books, and where books are brought to this form; what
-- an audit says. What is so after a session is one record of each: `AreVisited`, `AreMade`,
-- `AreContinued`, `AreAudited`, `AreUpgraded`.
pub mod Sessions
pub mod Openings
pub mod Unused
pub mod Faults
pub mod Causes
pub mod NewBooks
pub mod Stops
pub mod Visits
pub mod Upgrades
pub mod Audits
