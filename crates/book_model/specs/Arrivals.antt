-- By which entry of the journal each record came.
use Rattle.std.specs.Prelude.{ℕ, List, map, find, Option, Ok}
use Rattle.book_model.specs.Std.{option_map_or}
use Rattle.book_model.specs.declared.entry.Arrival.{Arrival}
use Rattle.book_model.specs.Sets.{members, set_of}
use Rattle.book_model.specs.Records.{Naming, Records, by_bytes, name_of}
use Rattle.book_model.specs.Disputes.{is_from}
use Rattle.book_model.specs.RulingAnswers.{record_named}
use Rattle.book_model.specs.Journal.{came_by}
use Rattle.book_model.specs.Books.{Book}
use Rattle.book_model.specs.Outcomes.{Outcome, no_event}

-- the names of the records of a set, each once and in order
abbrev pub names_of : Naming → Records → List (List ℕ)
names_of naming held = members (set_of by_bytes (map (name_of naming) (members held)))

-- the number of the entry by which the record of a name came; 0 where it came by none
abbrev pub came_under : Naming → Book → List ℕ → ℕ
came_under naming book name =
    option_map_or (came_by book.journal) (record_named naming book.held name) 0

abbrev pub arrival_at : Naming → Book → List ℕ → Arrival
arrival_at naming book name = record { name = name; entry = came_under naming book name }

-- all records that are held, by name
abbrev pub arrivals : Naming → Book → List Arrival
arrivals naming book = map (arrival_at naming book) (names_of naming book.held)

-- the first of them whose name is these bytes or comes after them; none where there are no more
abbrev pub arrival_from : List ℕ → List Arrival → Option Arrival
arrival_from from arrivals = find (λ arrival. is_from from arrival.name) arrivals

abbrev pub arrival_outcome : Naming → List ℕ → Book → Outcome (Option Arrival)
arrival_outcome naming from book = no_event (Ok (arrival_from from (arrivals naming book)))
