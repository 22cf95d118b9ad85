-- What keys cost, one row more at a time; days one after another, and what each costs; names in
-- order; and rows of periods, the last one first.
pub mod CostLemmas
pub mod DayLemmas
pub mod NameLemmas
pub mod PageLemmas
