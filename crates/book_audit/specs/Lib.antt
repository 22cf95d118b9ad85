-- The trees and what is looked up in them; the rule of identity; what the data of a record say;
-- which record of an identity was chosen last; how a record is charged and posted; by which entries
-- records came; trees that are sound; how much a book has; trees that hold a book; how a call looks
-- at trees; what is printed of a finding, and of an audit; what an audit says, and books that were
-- copied.
pub mod Trees
pub mod Walks
pub mod Rulings
pub mod Rules
pub mod Data
pub mod Choices
pub mod Marks
pub mod Came
pub mod Records
pub mod Days
pub mod Entries
pub mod Lines
pub mod Details
pub mod ChoiceRows
pub mod KeptRulings
pub mod Journal
pub mod SoundTrees
pub mod Counts
pub mod OfBook
pub mod Looks
pub mod Findings
pub mod Texts
pub mod Copies
