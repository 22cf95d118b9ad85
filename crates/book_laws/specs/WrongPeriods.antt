-- Other definitions of a period, which are wrong: with each of them the law of the net count is
-- false.
use Rattle.std.specs.Prelude.{◌≡◌, ℕ, List, [], ◌∷◌, ◌++◌, Option, ℤ, pos}
use Rattle.book_model.specs.Words.{Period, period_by, Book, charged_now, charged_through, Event}
use Rattle.book_model.specs.Words.{PeriodClosed, book_after, Records, by_bytes, last_close}
use Rattle.book_model.specs.Words.{set_of, has, without}
use Rattle.book_laws.specs.NetCounts.{net_count, one_if}

-- how a period is made: from the close before it, what that close charged, and what is charged at
-- its end
abbrev pub PeriodDefinition : Type 0
PeriodDefinition = Option ℤ → Records → Records → Period

-- the closed periods of a history, made so
abbrev pub closed_periods_by : PeriodDefinition → List Event → List Period
closed_periods_by make [] = []
closed_periods_by make (PeriodClosed said day ∷ older) =
    let book : Book = book_after older in
    closed_periods_by make older
    ++ make (last_close book.rulings) book.posted (charged_through book.rulings day book.held) ∷ []
closed_periods_by make (event ∷ older) = closed_periods_by make older

-- all its periods, the open one last
abbrev pub all_periods_by : PeriodDefinition → List Event → List Period
all_periods_by make history =
    let book : Book = book_after history in
    closed_periods_by make history
    ++ make (last_close book.rulings) book.posted (charged_now book.rulings book.held) ∷ []

-- the law of the net count, for periods that are made so
abbrev pub ChargedOnceBy : PeriodDefinition → Type 0
ChargedOnceBy make =
    (history : List Event) (bytes : List ℕ)
    → net_count (all_periods_by make history) bytes
    ≡ pos (one_if (has (charged_now (book_after history).rulings (book_after history).held) bytes))

-- as the books make it
abbrev pub as_defined : PeriodDefinition
as_defined = period_by

-- nothing is reversed
abbrev pub no_minus : PeriodDefinition
no_minus last before charged =
    record (period_by last before charged) { taken = set_of by_bytes [] }

-- the rows count late records too
abbrev pub counts_late : PeriodDefinition
counts_late last before charged = record (period_by last before charged) { counted = charged }

-- records dated after the close are added too
abbrev pub adds_current : PeriodDefinition
adds_current last before charged =
    record (period_by last before charged) { added = without charged before }

-- The law is true of periods as the books make them, and false of the others.
pub record WrongPeriodsFail : Type 0 where
  pub right : ChargedOnceBy as_defined
  pub minus : ChargedOnceBy no_minus → ⊥
  pub counted : ChargedOnceBy counts_late → ⊥
  pub added : ChargedOnceBy adds_current → ⊥
