-- The period of a day, and the charge rows that are due; tables that are consistent; and the laws.
pub mod DueRows
pub mod Consistent
pub mod Laws
