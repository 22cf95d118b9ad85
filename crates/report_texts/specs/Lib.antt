-- Read in this order: columns and numbers, how a period is named, each text of a whole period, those
-- of one centre, what-ifs, the disputes as a list and as a table, the details of a period as both,
-- what the bills of a centre and of the office charge, all centres at once too, the lists of periods and
-- of rulings, the journal as a list and as a table, the text of one record in its parts, what a dry run
-- of a ruling shows: its figures, and its text; and midnights, and a period as a table of cost and
-- usage.
pub mod Columns
pub mod Periods
pub mod Statements
pub mod StatementTables
pub mod Tables
pub mod AdjustmentLists
pub mod AdjustmentTables
pub mod Centres
pub mod WhatIfs
pub mod DisputeLists
pub mod Moments
pub mod DisputeTables
pub mod DetailLists
pub mod DetailTables
pub mod Charges
pub mod CentreAmounts
pub mod PeriodLists
pub mod RulingLists
pub mod JournalLists
pub mod JournalTables
pub mod UsageLines
pub mod ReckoningLines
pub mod LifeLines
pub mod RecordTexts
pub mod Figures
pub mod DryRuns
pub mod Midnights
pub mod FocusTables
