-- What each look answers of the tables.
use Rattle.std.specs.Prelude.{◌≡◌, ℕ, Bool, true, false, not, List, length, map, filter, take}
use Rattle.std.specs.Prelude.{Option, Some, None, Vec, slice_get, unwrap_or}
use Rattle.std.specs.FinMap.{FinMap, entries, get, keys}
use Rattle.std.specs.Global.{Global}
use Rattle.std.specs.List.{AllZip, last_or, list_any}
use Rattle.std.specs.List.Sorted.{IsPermutation, IsStrictlySortedBy}
use Rattle.std.specs.Option.{option_map}
use Rattle.std.specs.Ordering.{nat_cmp}
use Rattle.book_model.specs.Words.{Credit, is_from, same_bytes}
use Rattle.book_model.specs.declared.entry.Arrival.{Arrival}
use Rattle.book_model.specs.declared.row.ChargeRow.{ChargeRow}
use Rattle.book_model.specs.declared.row.RowKey.{RowKey}
use Rattle.table_model.specs.DisputesRead.{by_identity}
use Rattle.table_model.specs.PeriodRows.{rows_under}
use Rattle.table_model.specs.PeriodLists.{rows_read}
use Rattle.table_model.specs.Tables.{CameTable, ChoiceRow, RecordRow, RecordTable, ReplacedRow}
use Rattle.table_model.specs.Tables.{Tables}
use Rattle.table_model.specs.Views.{has_choice, rows_with}
use Rattle.tree_rows.specs.Changes.{above}
use Rattle.tree_tables.specs.Stored.{book_entry, choice_entry, close_entry, credit_entry}
use Rattle.tree_tables.specs.Stored.{replaced_entry, signed_name, stored_entry, tariff_of}
use Rattle.tree_tables.specs.declared.book_row.StoredBook.{StoredBook}
use Rattle.tree_tables.specs.declared.choice_rows.StoredChoice.{StoredChoice}
use Rattle.tree_tables.specs.declared.chosen_numbers.ChosenNumber.{ChosenNumber}
use Rattle.tree_tables.specs.declared.closed_rows.Close.{Close}
use Rattle.tree_tables.specs.declared.credit_rows.StoredCredit.{StoredCredit}
use Rattle.tree_tables.specs.declared.found_names.FoundName.{FoundName}
use Rattle.tree_tables.specs.declared.line_rows.StoredLine.{StoredLine}
use Rattle.tree_tables.specs.declared.replaced_rows.StoredReplaced.{StoredReplaced}
use Rattle.tree_tables.specs.declared.stored_record.StoredRecord.{StoredRecord}
use Rattle.tree_tables.specs.declared.tariff_rows.StoredTariff.{StoredTariff}

-- the row of the book
abbrev pub FindsBook : Tables → Option StoredBook → Type 0
FindsBook tables found = option_map book_entry found ≡ Some tables.book

-- all tariffs, by their first days
abbrev pub ListsTariffs : Tables → List StoredTariff → Type 0
ListsTariffs tables list = map tariff_of list ≡ entries tables.tariffs

-- all closes, by their periods
abbrev pub ListsCloses : Tables → List Close → Type 0
ListsCloses tables list = map close_entry list ≡ entries tables.closes

-- the record of a name, if there is one
abbrev pub FindsRecord : List ℕ → Tables → Option StoredRecord → Type 0
FindsRecord name tables found =
    option_map stored_entry found
    ≡ option_map (λ (row : RecordRow). (name, row)) (get tables.records name)

-- the records of names that each have one
abbrev pub FindsNamed : List FoundName → Tables → List StoredRecord → Type 0
FindsNamed names tables found =
    AllZip (λ named stored. FindsRecord named.name tables (Some stored)) names found

-- the names of the first two of the records that have an identity, in their order
abbrev pub NamesSharing : List ℕ → Tables → List FoundName → Type 0
NamesSharing identity tables names =
    map (λ (one : FoundName). one.name) names
    ≡ map (λ (entry : List ℕ × RecordRow). entry.0) (take 2 (rows_with identity tables.records))

-- how many they are
abbrev pub CountsSharing : List ℕ → Tables → ℕ → Type 0
CountsSharing identity tables count = count ≡ length (take 2 (rows_with identity tables.records))

-- all records that have an identity, by name
abbrev pub ListsSharing : List ℕ → Tables → List StoredRecord → Type 0
ListsSharing identity tables list = map stored_entry list ≡ rows_with identity tables.records

-- The record with the least name after one, or with the least of all, if there is such a record.
-- (`FindsNext` of table_ledger is about identities in dispute.)
abbrev pub FindsNext : Option (List ℕ) → Tables → Option StoredRecord → Type 0
FindsNext last tables found =
    option_map stored_entry found ≡ slice_get (above last tables.records) 0

-- a record that is not charged
abbrev pub is_uncharged : List ℕ × RecordRow → Bool
is_uncharged entry = not entry.1.charged

-- the records that are not charged, by identity, then name
pub record ListsUncharged (tables : Tables) (list : List StoredRecord) : Type 0 where
  pub same : IsPermutation (map stored_entry list) (filter is_uncharged (entries tables.records))
  pub sorted : IsStrictlySortedBy by_identity (map stored_entry list)

-- the row of a record that is not charged, with an identity that is some bytes or comes after them
pub record IsUnchargedFrom (from : List ℕ) (tables : Tables) (row : List ℕ × RecordRow) : Type 0 where
  pub there : get tables.records row.0 ≡ Some row.1
  pub uncharged : row.1.charged ≡ false
  pub reached : is_from from row.1.identity ≡ true

-- the least identity from some bytes on that a record has which is not charged (`IsNextUncharged`
-- of LateRecords is about records)
pub record IsNextUncharged (from : List ℕ) (tables : Tables) (identity : List ℕ) : Type 0 where
  pub row : List ℕ × RecordRow
  pub uncharged : IsUnchargedFrom from tables row
  pub own : row.1.identity ≡ identity
  pub least : (other : List ℕ × RecordRow) → IsUnchargedFrom from tables other
      → is_from identity other.1.identity ≡ true

-- that identity, if there is one
abbrev pub FindsUncharged : List ℕ → Tables → Option (Vec ℕ Global) → Type 0
FindsUncharged from tables None =
    (row : List ℕ × RecordRow) → IsUnchargedFrom from tables row → ⊥
FindsUncharged from tables (Some identity) = IsNextUncharged from tables identity.items

-- a record by its name and by which entry of the journal it came
abbrev pub arrival_of : CameTable → List ℕ → Arrival
arrival_of came name = record { name = name; entry = unwrap_or (get came name) 0 }

-- the record with the least name that is some bytes or comes after them
pub record IsNextArrival (from : List ℕ) (tables : Tables) (arrival : Arrival) : Type 0 where
  pub row : RecordRow
  pub there : get tables.records arrival.name ≡ Some row
  pub own : arrival ≡ arrival_of tables.came arrival.name
  pub reached : is_from from arrival.name ≡ true
  pub least : (name : List ℕ) (row : RecordRow) → get tables.records name ≡ Some row
      → is_from from name ≡ true → is_from arrival.name name ≡ true

-- that record, if there is one
abbrev pub FindsArrival : List ℕ → Tables → Option Arrival → Type 0
FindsArrival from tables None =
    (name : List ℕ) (row : RecordRow) → get tables.records name ≡ Some row
    → is_from from name ≡ false
FindsArrival from tables (Some arrival) = IsNextArrival from tables arrival

-- a record that is charged
abbrev pub is_charged : List ℕ × RecordRow → Bool
is_charged entry = entry.1.charged

-- the records that have an identity and are charged, by name
abbrev pub charged_with : List ℕ → RecordTable → List (List ℕ × RecordRow)
charged_with identity records = filter is_charged (rows_with identity records)

-- whether a record of the identity is charged
abbrev pub HasCharged : List ℕ → Tables → Bool → Type 0
HasCharged identity tables found =
    found ≡ list_any is_charged (rows_with identity tables.records)

-- the charged record of an identity, if there is one; the first by name, if there are more
abbrev pub FindsCharged : List ℕ → Tables → Option StoredRecord → Type 0
FindsCharged identity tables found =
    option_map stored_entry found ≡ slice_get (charged_with identity tables.records) 0

-- the last number of a table by numbers, or 0 where it has no row
abbrev pub last_number : {V : Type 0} → FinMap nat_cmp V → ℕ
last_number table = unwrap_or (last_or None (keys table)) 0

-- the choice of a number, if there is one
abbrev pub FindsChoice : ℕ → Tables → Option StoredChoice → Type 0
FindsChoice number tables found =
    option_map choice_entry found
    ≡ option_map (λ (row : ChoiceRow). (number, row)) (get tables.choices number)

-- the choices of numbers that each have one
abbrev pub FindsNumbered : List ChosenNumber → Tables → List StoredChoice → Type 0
FindsNumbered numbers tables found =
    AllZip (λ one stored. FindsChoice one.number tables (Some stored)) numbers found

-- a choice names the record
abbrev pub names_it : List ℕ → ℕ × ChoiceRow → Bool
names_it name entry = same_bytes entry.1.name name

-- the choices that name a record, by their numbers
abbrev pub ListsChosen : List ℕ → Tables → List StoredChoice → Type 0
ListsChosen name tables list =
    map choice_entry list ≡ filter (names_it name) (entries tables.choices)

-- whether some choice names the record
abbrev pub HasChoice : List ℕ → Tables → Bool → Type 0
HasChoice name tables found = found ≡ has_choice tables.choices name

-- all choices, by their numbers
abbrev pub ListsChoices : Tables → List StoredChoice → Type 0
ListsChoices tables list = map choice_entry list ≡ entries tables.choices

-- the credit of a number, if there is one
abbrev pub FindsCredit : ℕ → Tables → Option StoredCredit → Type 0
FindsCredit number tables found =
    option_map credit_entry found
    ≡ option_map (λ (credit : Credit). (number, credit)) (get tables.credits number)

-- all credits, by their numbers
abbrev pub ListsCredits : Tables → List StoredCredit → Type 0
ListsCredits tables list = map credit_entry list ≡ entries tables.credits

-- the tariff that was replaced of a number, if there is one
abbrev pub FindsReplaced : ℕ → Tables → Option StoredReplaced → Type 0
FindsReplaced number tables found =
    option_map replaced_entry found
    ≡ option_map (λ (row : ReplacedRow). (number, row)) (get tables.replaced number)

-- all tariffs that were replaced, by their numbers
abbrev pub ListsReplaced : Tables → List StoredReplaced → Type 0
ListsReplaced tables list = map replaced_entry list ≡ entries tables.replaced

-- the charge row of a period at a place, if there is one
abbrev pub FindsDay : ℕ → RowKey → Tables → Option ChargeRow → Type 0
FindsDay period place tables found = found ≡ get tables.days (period, place)

-- the charge rows of a period, by day, then centre, then shift
abbrev pub ListsDays : ℕ → Tables → List ChargeRow → Type 0
ListsDays period tables list = list ≡ rows_read period tables.days

-- whether a period's line for a record adds it, if there is one
abbrev pub FindsLine : ℕ → List ℕ → Tables → Option Bool → Type 0
FindsLine period name tables found = found ≡ get tables.lines (period, name)

-- the lines of a period, by name
abbrev pub ListsLines : ℕ → Tables → List StoredLine → Type 0
ListsLines period tables list =
    map signed_name list
    ≡ map (λ (row : (ℕ × List ℕ) × Bool). (row.0.1, row.1)) (rows_under period tables.lines)
