-- Read in this order: how a dump is read, in which layout it looks to be, and when it is torn; what a
-- trial and a check are, the exit statuses and what is said with them, why a file failed, what a line of a
-- list says and the names of the list, what each number and word means, and the laws that follow.
pub mod Readings
pub mod Layouts
pub mod Marks
pub mod Trials
pub mod Checks
pub mod Listings
pub mod Statuses
pub mod Messages
pub mod Causes
pub mod ListedLines
pub mod Names
pub mod Meanings
pub mod Explanations
pub mod Laws
