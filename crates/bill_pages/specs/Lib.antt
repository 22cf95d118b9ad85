-- Read in this order: figures, the style, a sheet on a page, the page as a whole, and what it shows as
-- the bill's text does.
pub mod Grouped
pub mod PageStyle
pub mod SheetPages
pub mod BillPages
pub mod ShownAlike
