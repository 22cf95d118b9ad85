-- The first day of the tariff that begins after a day.
use Rattle.std.specs.Prelude.{ℤ, int_lt, if◌then◌else◌, Option, Some, None, Ok}
use Rattle.book_model.specs.Words.{Book, Outcome, no_event, tariffs_seen}
use Rattle.report_texts.specs.Figures.{next_begin}

-- the day that was found, with one more tariff that begins on this one
abbrev pub next_with : Option ℤ → ℤ → ℤ → Option ℤ
next_with (Some found) day first = Some found
next_with None day first = if int_lt day first then Some first else None

-- what a book answers to it
abbrev pub next_outcome : ℤ → Book → Outcome (Option ℤ)
next_outcome day book = no_event (Ok (next_begin day (tariffs_seen book.rulings.tariffs)))
