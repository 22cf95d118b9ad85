-- The lemmas: the trees of books; the list that a sound file has, and those of older forms; what is
-- told of refused files; what the state of a store says of its files; what refused files say; files
-- that hold no database yet; files that a ledger left, and what an open shows of them; that books
-- can be made; what a store over books leaves; logs of which recovery takes nothing; files that were
-- just opened; files that were closed; what they say of their form; what a stop within the making of
-- books leaves; a log whose pages were moved; pieces of a file that are copied.
pub mod Trees
pub mod ListingLemmas
pub mod FormLemmas
pub mod Refused
pub mod Results
pub mod FileParts
pub mod ToldLemmas
pub mod OldTrees
pub mod BlankFiles
pub mod Opened
pub mod AlikeFiles
pub mod Buildable
pub mod EachLeft
pub mod UnusedLogs
pub mod FreshFiles
pub mod ClosedFiles
pub mod FormNumbers
pub mod Begun
pub mod Moved
pub mod CopyLemmas
