-- Days that are far after what books hold. A close or a tariff of the wrong month or year is as good as any
-- other, and nothing mends it: so it is noticed, where it is in force, or refused, where it has to be near.
use Rattle.std.specs.Prelude.{◌==◌, ◌&&◌, ◌||◌, if◌then◌else◌, Bool, true, false, List, length}
use Rattle.std.specs.Prelude.{string_bytes, ℤ, pos, ◌+ℤ◌, int_lt, Option, Some, None, Result, Ok}
use Rattle.std.specs.Prelude.{Err}
use Rattle.book_model.specs.Std.{list_all, option_map_or}
use Rattle.book_model.specs.declared.answer.Ruled.TheVariants.{Done}
use Rattle.book_model.specs.declared.fault.LedgerFault.{LedgerFault}
use Rattle.book_model.specs.declared.row.ChargeRow.{ChargeRow}
use Rattle.book_model.specs.Words.{TariffFault, Book, Outcome, Terms, no_event, terms_in}
use Rattle.report_texts.specs.Figures.{rows_in}
use Rattle.book_reports.specs.declared.figures.OpenPeriod.{OpenPeriod}
use Rattle.book_reports.specs.Figures.{open_in}
use Rattle.office.specs.declared.request.Asked.{Asked}
use Rattle.office.specs.declared.request.Asked.TheVariants.{Rule}
use Rattle.office.specs.declared.request.OwnedRuling.TheVariants.{Tariff, Close}
use Rattle.office.specs.Requests.{Response, Ruling}
use Rattle.chargectl.specs.declared.far.RulingDay.{RulingDay}
use Rattle.without_books.specs.declared.notice.Notice.{Notice}
use Rattle.without_books.specs.declared.notice.Notice.TheVariants as notice

-- a day is far after another where it is later by more than so many days, which a leap year has
abbrev pub far_days : ℤ
far_days = pos 366

-- so a day is far after another
abbrev pub is_far_after : ℤ → ℤ → Bool
is_far_after day other = int_lt (other +ℤ far_days) day

-- a period is closed within a week of its newest record
abbrev pub near_days : ℤ
near_days = pos 7

-- a day is more than a week after another
abbrev pub is_week_after : ℤ → ℤ → Bool
is_week_after day other = int_lt (other +ℤ near_days) day

-- so a day of a ruling is far after that of a record: of a close by a week, of a tariff by a leap year
abbrev pub is_after_record : RulingDay → ℤ → Bool
is_after_record it other =
    if it.is_close then is_week_after it.day other else is_far_after it.day other

-- The day of a ruling is far from what books hold where it is so after the newest day: it is far after all
-- that the open period is charged, by its rows; or, where that is nothing, far after the last close. From
-- books without either no day is far, but a close that is later than today.
abbrev pub is_far : RulingDay → List ChargeRow → Option ℤ → Bool
is_far it rows last_close =
    it.is_late || (if length rows == 0 then option_map_or (is_far_after it.day) last_close false
    else list_all (λ row. is_after_record it row.day) rows)

-- so is a day, if there is one, from a book whose open period this is
abbrev pub is_far_on : OpenPeriod → Option RulingDay → Book → Bool
is_far_on period day book =
    option_map_or (λ it. is_far it (rows_in period.number book) period.last_close) day false

-- the same, as a ledger is asked for it
abbrev pub far_on_outcome : OpenPeriod → Option RulingDay → Book → Outcome Bool
far_on_outcome period day book = no_event (Ok (is_far_on period day book))

-- the first day of a tariff; a text that is none has no day
abbrev pub first_day : Result Terms TariffFault → Option RulingDay
first_day (Ok terms) =
    Some (record { day = terms.effective; is_close = false; is_late = false })
first_day (Err fault) = None

-- a day is later than today, if that is known
abbrev pub is_after_today : Option ℤ → ℤ → Bool
is_after_today today day = option_map_or (λ now. int_lt now day) today false

-- the last day of a period that is closed
abbrev pub closed_through : Option ℤ → ℤ → RulingDay
closed_through today through = record {
  day = through;
  is_close = true;
  is_late = is_after_today today through;
}

-- the day of a ruling, where it has one, as it is seen today
abbrev pub day_asked : Option ℤ → Asked → Option RulingDay
day_asked today (Rule (Tariff text) said) = first_day (terms_in (string_bytes text))
day_asked today (Rule (Close period through) said) = Some (closed_through today through)
day_asked today asked = None

-- its day is far from a book
abbrev pub is_far_asked : Option ℤ → Asked → Book → Bool
is_far_asked today asked book = is_far_on (open_in book) (day_asked today asked) book

-- the same, as a ledger is asked for it
abbrev pub far_outcome : Option ℤ → Asked → Book → Outcome Bool
far_outcome today asked book = no_event (Ok (is_far_asked today asked book))

-- a ruling is in force from now on
abbrev pub is_done : Result Response LedgerFault → Bool
is_done (Ok (Ruling Done)) = true
is_done told = false

-- A ruling that is in force is noticed, where its day is far. One that is refused is not, nor one that
-- was in force already.
abbrev pub notice_by : Bool → Result Response LedgerFault → Option Notice
notice_by far told = if is_done told && far then Some notice.Far else None

-- so by the book before it
abbrev pub far_notice : Option ℤ → Asked → Book → Result Response LedgerFault → Option Notice
far_notice today asked book told = notice_by (is_far_asked today asked book) told
