-- A period: three sets of records, made by one formula. What its statement and its adjustments show
-- is read from them.
use Rattle.std.specs.Prelude.{not, Option, ℤ}
use Rattle.book_model.specs.Sets.{those, without}
use Rattle.book_model.specs.Records.{Records}
use Rattle.book_model.specs.Charged.{is_dated_after}

-- the records that the rows of a period count, those that its lines add, and those that they
-- reverse
pub record Period : Type 0 where
  pub counted : Records
  pub added : Records
  pub taken : Records

-- By the close before a period, what was charged there, and what is charged at the period's end: it
-- counts what is charged and dated after that close; it adds what is charged now, was not charged
-- then, and is dated no later than that close; and it reverses what is charged no more.
abbrev pub period_by : Option ℤ → Records → Records → Period
period_by last before charged = record {
  counted = those (is_dated_after last) charged;
  added = those (λ bytes. not (is_dated_after last bytes)) (without charged before);
  taken = without before charged;
}
