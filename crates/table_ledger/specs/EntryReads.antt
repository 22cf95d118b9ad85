-- Entries of the journal as they are listed, by what is remembered of the rulings and by what looks
-- find of them.
use Rattle.std.specs.Prelude.{◌≡◌, ◌<◌, ◌-◌, ℕ, ℤ, List, [], ◌∷◌, drop, find, length, slice_get}
use Rattle.std.specs.Prelude.{None, Option, Some, if◌then◌else◌, option_and_then, option_map}
use Rattle.std.specs.Prelude.{unwrap_or}
use Rattle.std.specs.FinMap.{from_entries}
use Rattle.std.specs.Ordering.{int_eq}
use Rattle.book_model.specs.Journal.{AdoptionOf, ChoiceOf, CloseOf, CreditOf}
use Rattle.book_model.specs.Journal.{Place, ReplacementOf, TariffOf}
use Rattle.book_model.specs.Words.{AcceptedTerms, ActSeen, AdoptionSeen}
use Rattle.book_model.specs.Words.{CloseSeen, ImportDone}
use Rattle.book_model.specs.Words.{RulingDone, RulingSeen, TariffSeen, is_effective}
use Rattle.book_model.specs.Words.{tariff_seen, through_of}
use Rattle.book_core.specs.OfficeRulings.{ruled_in}
use Rattle.table_model.specs.ListsRead.{choice_read_at}
use Rattle.table_model.specs.Tables.{ImportRow, ReplacedRow, RowAct, RulingRow, Tables}
use Rattle.table_model.specs.Words.{under_numbers}
use Rattle.table_ledger.specs.RulingLooks.{credit_read_at}
use Rattle.table_ledger.specs.declared.summary.Summary.{Summary}

-- the rows of the tariffs that were replaced, so many of them
pub record AreReplaced (rows : List ReplacedRow) (count : ℕ) (tables : Tables) : Type 0 where
  pub table : tables.replaced ≡ from_entries (under_numbers 1 rows)
  pub many : length rows ≡ count

-- the text of the first of some that begins on a day
abbrev pub text_among : ℤ → List ReplacedRow → Option (List ℕ)
text_among day [] = None
text_among day (row ∷ later) =
    if int_eq day row.day then Some (unwrap_or row.text []) else text_among day later

-- it is looked for behind so many of them
abbrev pub FindsText : ℤ → ℕ → ℕ → Tables → Option (List ℕ) → Type 0
FindsText day number count tables text =
    (rows : List ReplacedRow) → AreReplaced rows count tables
    → text ≡ text_among day (drop number rows)

-- a tariff of a day by that text, or the one in force
abbrev pub brought_by : ℤ → List AcceptedTerms → Option (List ℕ) → Option RulingSeen
brought_by day tariffs (Some text) = Some (TariffSeen day text)
brought_by day tariffs None = option_and_then tariff_seen (find (is_effective day) tariffs)

abbrev pub brought_among : ℤ → List AcceptedTerms → List ReplacedRow → Option RulingSeen
brought_among day tariffs rows = brought_by day tariffs (text_among day rows)

-- The tariff of a day that came first, or in the place of the one that was replaced under a number.
abbrev pub ShowsBrought : Summary → ℤ → ℕ → Tables → Option RulingSeen → Type 0
ShowsBrought summary day number tables found =
    (rows : List ReplacedRow) → AreReplaced rows summary.replaced tables
    → found ≡ brought_among day (ruled_in summary.rulings).tariffs (drop number rows)

-- the second of these, by the number alone
abbrev pub replacement_among : ℕ → List AcceptedTerms → List ReplacedRow → Option RulingSeen
replacement_among number tariffs rows =
    option_and_then (λ row. brought_among row.day tariffs (drop number rows))
    (slice_get rows (number - 1))

abbrev pub ShowsReplacement : Summary → ℕ → Tables → Option RulingSeen → Type 0
ShowsReplacement summary number tables found =
    (rows : List ReplacedRow) → AreReplaced rows summary.replaced tables
    → found ≡ replacement_among number (ruled_in summary.rulings).tariffs rows

-- A ruling is that of a place.
abbrev pub ShowsPlace : Summary → Place → Tables → Option RulingSeen → Type 0
ShowsPlace summary (TariffOf day) tables found = ShowsBrought summary day 0 tables found
ShowsPlace summary (CloseOf period) tables found =
    found ≡ option_map (CloseSeen period) (through_of period (ruled_in summary.rulings))
ShowsPlace summary (ChoiceOf number) tables found =
    (0 < number) × (found ≡ choice_read_at number tables.choices)
ShowsPlace summary AdoptionOf tables found =
    found ≡ option_map AdoptionSeen (ruled_in summary.rulings).adopted
ShowsPlace summary (ReplacementOf number) tables found =
    ShowsReplacement summary number tables found
ShowsPlace summary (CreditOf number) tables found =
    (0 < number) × (found ≡ credit_read_at number tables.credits)

-- An entry says what its row does, and its ruling is that of its place.
abbrev pub ShowsAct : Summary → RowAct → Tables → ActSeen → Type 0
ShowsAct summary (RulingRow place) tables act =
    (found : Option RulingSeen) × (ShowsPlace summary place tables found)
    × (act ≡ RulingDone place found)
ShowsAct summary (ImportRow reading ending kept) tables act = act ≡ ImportDone reading ending kept
