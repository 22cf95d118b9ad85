-- The details of a period: each record that its charge rows count, in the order of the rows, then by
-- time, then by name.
use Rattle.std.specs.Prelude.{ℕ, ℤ, ◌-◌, Bool, true, List, filter, [], ◌∷◌, find, IfSome, Option}
use Rattle.std.specs.Prelude.{Some, None, option_map, ok_or, filter_map}
use Rattle.book_model.specs.Std.{Ordering, is_lt, nat_cmp, ordering_then, option_map_or}
use Rattle.smf_text.specs.Day.{IsDay}
use Rattle.smf_type30.specs.Usage.{day_of, ended_step_of, job_id_of, job_of, program_of, time_of}
use Rattle.tariff_rules.specs.declared.priced.Priced.{Priced}
use Rattle.book_model.specs.declared.detail.Detail.{Detail}
use Rattle.book_model.specs.declared.fault.LedgerFault.TheVariants.{NoSuchPeriod}
use Rattle.book_model.specs.declared.row.RowKey.{RowKey}
use Rattle.book_model.specs.Sets.{members, set_of}
use Rattle.book_model.specs.Records.{Naming, Records, by_bytes, name_of, same_bytes}
use Rattle.book_model.specs.Rulings.{Rulings, price_in}
use Rattle.book_model.specs.CloseDays.{is_between}
use Rattle.book_model.specs.Rows.{by_key, key_of, same_key}
use Rattle.book_model.specs.Periods.{Period}
use Rattle.book_model.specs.Books.{Book, period_of}
use Rattle.book_model.specs.RulingAnswers.{through_of}
use Rattle.book_model.specs.Outcomes.{Outcome, no_event}

-- a record as details show it, by its name and by what it costs
abbrev pub detail_with : List ℕ → List ℕ → Priced → Detail
detail_with name bytes priced = record {
  priced = priced;
  time = time_of bytes;
  name = name;
  job = job_of bytes;
  program = program_of bytes;
  job_id = job_id_of bytes;
  step = ended_step_of bytes;
}

abbrev pub detail_by : Naming → List ℕ → Priced → Detail
detail_by naming bytes priced = detail_with (name_of naming bytes) bytes priced

-- a record as details show it, where it has a price
abbrev pub detail_of : Naming → Rulings → List ℕ → Option Detail
detail_of naming rulings bytes = option_map (detail_by naming bytes) (price_in rulings bytes)

-- by day, centre and shift, as charge rows stand; then by time, then by name
abbrev pub by_detail : Detail → Detail → Ordering
by_detail a b =
    ordering_then (by_key (key_of a.priced) (key_of b.priced))
    (ordering_then (nat_cmp a.time b.time) (by_bytes a.name b.name))

-- the details of some records
abbrev pub details_for : Naming → Rulings → Records → List Detail
details_for naming rulings records =
    members (set_of by_detail (filter_map (detail_of naming rulings) (members records)))

-- the details of a period
abbrev pub details_of : Naming → Rulings → Period → List Detail
details_of naming rulings period = details_for naming rulings period.counted

-- of some details, those of one charge row
abbrev pub details_at : List Detail → RowKey → List Detail
details_at details key = filter (λ detail. same_key (key_of detail.priced) key) details

-- of some details, those of one centre
abbrev pub details_of_centre : List ℕ → List Detail → List Detail
details_of_centre centre details =
    filter (λ detail. same_bytes detail.priced.centre centre) details

-- a detail is one of the centre that is named, or none is
abbrev pub is_asked : Option (List ℕ) → Detail → Bool
is_asked centre detail = option_map_or (same_bytes detail.priced.centre) centre true

-- of some details, those of the centre that is named, or all of them where none is
abbrev pub details_asked : Option (List ℕ) → List Detail → List Detail
details_asked None details = details
details_asked (Some centre) details = details_of_centre centre details

-- what a book answers to the details of a period, or of one centre in it
abbrev pub details_outcome : Naming → ℕ → Option (List ℕ) → Book → Outcome (List Detail)
details_outcome naming number centre book =
    no_event (ok_or
    (option_map (λ period. details_asked centre (details_of naming book.rulings period))
    (period_of book number)) NoSuchPeriod)

-- the first of some details, if there is one
abbrev pub first_detail : List Detail → Option Detail
first_detail [] = None
first_detail (detail ∷ later) = Some detail

-- a detail comes after the last one, or there is no last one
abbrev pub comes_after : Option Detail → Detail → Bool
comes_after last detail = option_map_or (λ one. is_lt (by_detail one detail)) last true

-- the first detail after one, or the first of all: details are read one at a time
abbrev pub next_after : Option Detail → List Detail → Option Detail
next_after None details = first_detail details
next_after (Some last) details = find (λ detail. is_lt (by_detail last detail)) details

-- what a book answers to the next detail of a period, or of one centre in it
abbrev pub next_detail_outcome :
    Naming → ℕ → Option (List ℕ) → Option Detail → Book → Outcome (Option Detail)
next_detail_outcome naming number centre last book =
    no_event (ok_or
    (option_map
    (λ period. next_after last (details_asked centre (details_of naming book.rulings period)))
    (period_of book number)) NoSuchPeriod)

-- a detail that was found, if one was, can be shown: it is dated on a day
abbrev pub ShowsDetail : Option Detail → Type 0
ShowsDetail found = IfSome found (λ detail. IsDay detail.priced.day)

-- the day is one of the period of that number: later than the close before it, and no later than its
-- own
abbrev pub is_day_of : ℕ → Rulings → ℤ → Bool
is_day_of number rulings = is_between (through_of (number - 1) rulings) (through_of number rulings)

-- the record is dated in it
abbrev pub is_dated_in : Rulings → ℕ → List ℕ → Bool
is_dated_in rulings number bytes = is_day_of number rulings (day_of bytes)
