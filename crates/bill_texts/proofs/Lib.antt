-- Booked sums are near what is owed; what is found in a list; and sums by tariff and shift.
pub mod BookedLemmas
pub mod FoundLemmas
pub mod ShiftLemmas
