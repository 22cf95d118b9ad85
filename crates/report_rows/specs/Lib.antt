-- The table of the reports, and what report a name makes of what it is about.
pub mod ReportRows
