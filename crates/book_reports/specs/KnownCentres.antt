-- Whether a centre is there in a period, as a ledger is asked for it by calls that are no event.
use Rattle.std.specs.Prelude.{ℕ, ◌∷◌, [], Bool, List, Option, Some, Ok, ℤ}
use Rattle.book_model.specs.Std.{list_any}
use Rattle.book_model.specs.Words.{Book, Outcome, RulingSeen, TariffSeen, begun_in, names_centre}
use Rattle.book_model.specs.Words.{no_event, of_centre, tariffs_seen, tariffs_through}
use Rattle.book_reports.specs.Shown.{closed_through}

-- some of the tariffs that begin by a day, where there is one, has a rule for the centre
abbrev pub is_named : List ℕ → Option ℤ → List RulingSeen → Bool
is_named centre through tariffs = list_any (names_centre centre) (tariffs_through through tariffs)

-- this one has
abbrev pub is_named_by : List ℕ → Option ℤ → ℤ → List ℕ → Bool
is_named_by centre through day text = is_named centre through (TariffSeen day text ∷ [])

-- some of the tariffs of a book has
abbrev pub named_outcome : List ℕ → Option ℤ → Book → Outcome Bool
named_outcome centre through book =
    no_event (Ok (is_named centre through (tariffs_seen book.rulings.tariffs)))

-- a centre that is not there in a period is refused
abbrev pub known_outcome : ℕ → List ℕ → Book → Outcome (Unit {0})
known_outcome number centre book =
    no_event (of_centre (begun_in number book.rulings) (Some centre) (Ok tt))

-- so is one that is named beside it; else the day that the period was closed through is answered, if
-- it was
abbrev pub known_through_outcome : ℕ → Option (List ℕ) → Book → Outcome (Option ℤ)
known_through_outcome number centre book =
    no_event (of_centre (begun_in number book.rulings) centre (Ok (closed_through book number)))
