-- Read in this order: the pieces of a page, the figures of a period, bars, what every page begins and
-- ends with, what it says of the office that bills, the page of the office, and that of a period by its
-- parts.
pub mod Markup
pub mod Figures
pub mod Bars
pub mod Frame
pub mod Letterheads
pub mod OfficePage
pub mod PeriodHead
pub mod PeriodPictures
pub mod PeriodTables
pub mod PeriodPage
