mod Words
pub mod ColumnLemmas
pub mod PeriodLemmas
pub mod TableLemmas
pub mod RowLemmas
pub mod AmountLemmas
pub mod CentreLemmas
pub mod FigureLemmas
pub mod AccountLines
pub mod DifferenceLemmas
pub mod ChargeLemmas
pub mod CentreAmountLemmas
pub mod FocusLemmas
pub mod MidnightLemmas
