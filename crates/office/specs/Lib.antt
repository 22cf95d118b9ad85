-- Read in this order: what is asked and what the books answer, also with no reader at hand; what
-- is written of it; choices, one after the other, and works that are withheld together, also by the
-- import of their records; and the laws.
pub mod Requests
pub mod Runs
pub mod Answers
pub mod Choices
pub mod Withholdings
pub mod ImportWorks
pub mod Outcomes
pub mod Laws
pub mod Repeats
