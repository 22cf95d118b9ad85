-- Read in this order: files that are read by their names, and the clock; why a command did not do what it
-- was asked; what it notices of a dump by its first bytes, and at its end; trials, checks and
-- explanations; the lines of a service, and the address that it takes; how a path is shown; the notes of
-- what is asked of books; and what is said to people on a terminal.
pub mod Inputs
pub mod Faults
pub mod FirstBytes
pub mod DumpEnds
pub mod Reading
pub mod ServedLines
pub mod Ports
pub mod ShownPaths
pub mod Notes
pub mod HelpLines
