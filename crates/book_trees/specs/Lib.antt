-- Read in this order: the text of each table and index; the list of them; the list that a file has
-- of itself; what a ledger leaves of its two files; the form of books; what a store shows of files;
-- what is told of files that are refused, and of those that are not looked through; what may be
-- found of closed files; what a copy holds; and books of older forms.
pub mod Texts
pub mod Schema
pub mod Listing
pub mod LedgerFiles
pub mod Forms
pub mod StoreView
pub mod Refusals
pub mod Looks
pub mod Closing
pub mod Copies
pub mod OldForms
