-- The journal as it is read: each entry with the words of its ruling, which are looked up where the
-- ruling stands among those of the office.
use Rattle.std.specs.Prelude.{ℕ, ◌+◌, ◌-◌, List, [], ◌∷◌, ◌++◌, filter, map, drop, length, Option}
use Rattle.std.specs.Prelude.{Some, None, ℤ, slice_get, option_map, option_and_then, Ok}
use Rattle.book_model.specs.CloseDays.{close_of}
use Rattle.book_model.specs.Records.{Naming}
use Rattle.book_model.specs.Rulings.{AcceptedTerms, Rulings, is_effective}
use Rattle.book_model.specs.RulingLists.{AdoptionSeen, CloseSeen, RulingSeen, choice_seen}
use Rattle.book_model.specs.RulingLists.{credit_seen, tariff_seen}
use Rattle.book_model.specs.Journal.{Act, AdoptionOf, ChoiceOf, CloseOf, CreditOf, Ending, Entry}
use Rattle.book_model.specs.Journal.{Imported, Importing, Note, Place, Reading, ReplacementOf}
use Rattle.book_model.specs.Journal.{Ruled}
use Rattle.book_model.specs.Journal.{TariffOf, kept_count}
use Rattle.book_model.specs.Books.{Book}
use Rattle.book_model.specs.Outcomes.{Outcome, no_event}

-- The tariffs that began on a day, one after another: those that were replaced, from the given
-- number on, and the one in force.
abbrev pub tariffs_from_number : ℤ → ℕ → Rulings → List AcceptedTerms
tariffs_from_number day number rulings =
    filter (is_effective day)
    (map (λ replaced. replaced.tariff) (drop number rulings.replaced) ++ rulings.tariffs)

-- The tariff of a day that came first, or in the place of the one replaced under the given number:
-- it is the next one that was replaced, or the one in force.
abbrev pub tariff_brought : ℤ → ℕ → Rulings → Option RulingSeen
tariff_brought day number rulings =
    option_and_then tariff_seen (slice_get (tariffs_from_number day number rulings) 0)

-- the ruling that stands at a place
abbrev pub ruling_at : Naming → Rulings → Place → Option RulingSeen
ruling_at naming rulings (TariffOf day) = tariff_brought day 0 rulings
ruling_at naming rulings (ReplacementOf number) =
    option_and_then
    (λ replaced. tariff_brought replaced.tariff.terms.effective number rulings)
    (slice_get rulings.replaced (number - 1))
ruling_at naming rulings (CloseOf period) =
    option_map (CloseSeen period) (close_of period rulings.closes)
ruling_at naming rulings (ChoiceOf number) =
    option_map (choice_seen naming number) (slice_get rulings.choices (number - 1))
ruling_at naming rulings AdoptionOf = option_map AdoptionSeen rulings.adopted
ruling_at naming rulings (CreditOf number) =
    option_map (credit_seen number) (slice_get rulings.credits (number - 1))

-- What an entry says: a ruling; or an import, by what it had read, why it ended, if it did, and how
-- many records it kept.
pub data ActSeen : Type 0 where
  RulingDone : Place → Option RulingSeen → ActSeen
  ImportDone : Reading → Option Ending → ℕ → ActSeen

-- an entry with its number, from 1
pub record EntrySeen : Type 0 where
  pub number : ℕ
  pub note : Note
  pub act : ActSeen

abbrev pub act_seen : Naming → Rulings → ℕ → Act → ActSeen
act_seen naming rulings kept (Ruled place) = RulingDone place (ruling_at naming rulings place)
act_seen naming rulings kept (Importing reading records) = ImportDone reading None kept
act_seen naming rulings kept (Imported reading ending records) =
    ImportDone reading (Some ending) kept

abbrev pub entry_seen : Naming → Rulings → ℕ → Entry → EntrySeen
entry_seen naming rulings number entry = record {
  number = number;
  note = entry.note;
  act = act_seen naming rulings (kept_count entry) entry.act;
}

-- the entries, the oldest first
abbrev pub entries_listed : Naming → Rulings → List Entry → List EntrySeen
entries_listed naming rulings [] = []
entries_listed naming rulings (entry ∷ older) =
    entries_listed naming rulings older
    ++ entry_seen naming rulings (length older + 1) entry ∷ []

-- the entry of a number, from 0, in the list; none where there are no more
abbrev pub entry_outcome : Naming → ℕ → Book → Outcome (Option EntrySeen)
entry_outcome naming number book =
    no_event (Ok (slice_get (entries_listed naming book.rulings book.journal) number))
