-- How a plain ledger keeps its book, and at the end its journal. Read in this order.
pub mod PaddedIdentities
pub mod Choices
pub mod Plain
pub mod Repricing
pub mod Treatments
pub mod PlainBook
pub mod PlainDetails
pub mod PlainLives
pub mod Replacements
pub mod Journals
pub mod MadeEntries
pub mod LedgerBook
