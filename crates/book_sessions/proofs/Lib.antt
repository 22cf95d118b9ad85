-- The lemmas: what a session leaves of files; what is known of their opening; what is left where
-- new books are made; where they are continued; that books to which nothing was submitted are those
-- of no history; why a session has no answer; what becomes of books of older forms; what an
-- audit says.
mod Words
pub mod SessionParts
pub mod Openings
pub mod NewParts
pub mod ResumeParts
pub mod UnusedBooks
pub mod Causes
pub mod UpgradeParts
pub mod AuditParts
