-- Read in this order: maps in which all rows change, and tables that number their rows by periods;
-- one record more or less in lines, in charge rows, among the records and among the names that are
-- counted; one that goes from one status to another; the tables with a record, and how few rows and
-- names differ; a close; a tariff, and the tables while its records are priced; what is past; the
-- view, and the tables after an event and over a history; rows and lines that are read. Then the
-- readings: texts, lists in order, what is found in a table, and sets that are made from lists;
-- records that have rivals; books that calls made, and that they can be read back; the rulings, the
-- records, those that a close posts, the choices, their list, and the lines that are read, and the
-- book; the rows of an identity; the answers to records, choices and other rulings, the lists of a
-- period, and which records it counts; rows in groups and in order, the next dispute from some
-- bytes on, and the disputes; the numbers that fit; the rows that a period would have by another
-- tariff; how long an identity is; the tables under the second rule of it; the lists that can be
-- shown; and the period that a day belongs to, the life of a record, and its trail.
pub mod MovedLemmas
pub mod NumberedLemmas
pub mod LineChanges
pub mod DayChanges
pub mod RecordChanges
pub mod TableParts
pub mod RestatedRows
pub mod CostLemmas
pub mod OpenChanges
pub mod OpenNames
pub mod HeldNames
pub mod CountedNames
pub mod Restated
pub mod StatusSteps
pub mod KeptCases
pub mod KeptLemmas
pub mod KeptPrice
pub mod ChoiceChanges
pub mod DifferLemmas
pub mod CountedDiffer
pub mod MoveLemmas
pub mod UnderNumbers
pub mod PickedRows
pub mod CloseDays
pub mod PostedSets
pub mod ClosedRows
pub mod ClosedLines
pub mod CloseLemmas
pub mod HeldPeriods
pub mod TariffPrices
pub mod PastLemmas
pub mod Rivals
pub mod RowsWhere
pub mod ViewLemmas
pub mod ViewFits
pub mod DueLemmas
pub mod CurrentLemmas
pub mod WalkLemmas
pub mod TariffChanges
pub mod ReplacedChanges
pub mod PartlyPriced
pub mod SumRead
pub mod LateRows
pub mod AdoptChanges
pub mod DueStays
pub mod JournalChanges
pub mod JournalFew
pub mod JournalStays
pub mod EventLemmas
pub mod PeriodReading
pub mod PeriodPlaces
pub mod RowReading
pub mod LineNames
pub mod LineReading
pub mod LinesStay
pub mod Texts
pub mod ListOrder
pub mod Finding
pub mod SetReading
pub mod CallsLemmas
pub mod CloseOrder
pub mod ReadableStays
pub mod ReadableLemmas
pub mod RulingsReading
pub mod RecordReading
pub mod CountedHeld
pub mod PostedRows
pub mod TouchedRecords
pub mod ChoiceReading
pub mod ListedChoices
pub mod LineSides
pub mod JournalReading
pub mod CameHeld
pub mod BookLemmas
pub mod AcceptLemmas
pub mod ChoiceLemmas
pub mod RulingLemmas
pub mod ListLemmas
pub mod CountedReading
pub mod GroupingLemmas
pub mod DisputedRecords
pub mod DisputedIdentities
pub mod RowOrder
pub mod DisputedRows
pub mod NextDispute
pub mod DisputeLemmas
pub mod PriceSums
pub mod FitsLemmas
pub mod CountedLemmas
pub mod DetailReading
pub mod CountedFirst
pub mod IdentityLengths
pub mod AdoptionLemmas
pub mod ShownLemmas
pub mod ShownDisputes
pub mod DayPeriods
pub mod LifeReading
pub mod TrailLemmas
