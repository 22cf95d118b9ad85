-- Midnights: the moments at which days begin, and at which the days before them have ended.
use Rattle.std.specs.Prelude.{ℕ, ℤ, pos, ◌+ℤ◌, ◌≤ℤ◌, int_lt, if◌then◌else◌, List, ◌++◌, codes}
use Rattle.smf_text.specs.Day.{first_day, last_day}
use Rattle.book_model.specs.Words.{day_text_of}

-- a day that begins at such a moment: one that is known, or the one after the last of these
abbrev pub IsMidnight : ℤ → Type 0
IsMidnight day = (first_day ≤ℤ day) × (day ≤ℤ (last_day +ℤ pos 1))

-- its date
unfoldable pub midnight_date : ℤ → List ℕ
midnight_date day = if int_lt last_day day then codes "2100-01-01" else day_text_of day

-- the moment
unfoldable pub midnight_text : ℤ → List ℕ
midnight_text day = midnight_date day ++ codes "T00:00:00Z"
