-- Read in this order: booked sums, sums by tariff and shift, the parts of a sheet, the rows of each
-- part, the sheet of a bill, a sheet as a text, and bills as texts and as tables.
pub mod Booked
pub mod ShiftSums
pub mod Sheets
pub mod SumsRows
pub mod TermsRows
pub mod WorkRows
pub mod RecordRows
pub mod CreditRows
pub mod BillSheets
pub mod SheetTexts
pub mod BillTexts
pub mod BillTables
