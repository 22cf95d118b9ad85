mod Words
pub mod WritingLemmas
pub mod ReadingLemmas
pub mod ShownLemmas
pub mod FrontLemmas
pub mod CursorLemmas
pub mod DisputeCursorLemmas
pub mod ArrivalCursorLemmas
pub mod StreamedLemmas
pub mod StreamingLemmas
pub mod AnsweringLemmas
pub mod WrittenListLemmas
