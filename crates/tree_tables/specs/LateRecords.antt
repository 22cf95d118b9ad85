-- A walk over the records that a later tariff may be for, by its first day: first those that are not
-- charged, by identity and name, and then those that are counted, as details stand, from the day on.
use Rattle.std.specs.Prelude.{◌≡◌, ◌++◌, ◌∷◌, [], ℕ, ℤ, pos, Bool, true, false, ◌&&◌, ◌||◌, List}
use Rattle.std.specs.Prelude.{Option, None, Some}
use Rattle.std.specs.FinMap.{contains_key, get}
use Rattle.std.specs.Option.{option_and_then, option_map, option_map_or}
use Rattle.std.specs.Ordering.{is_lt}
use Rattle.sqlite_value.specs.Order.{Row, column}
use Rattle.sqlite_value.specs.declared.value.Value.TheVariants.{Blob, Int}
use Rattle.book_model.specs.Words.{by_detail, same_bytes}
use Rattle.table_model.specs.DetailsRead.{detail_shown}
use Rattle.table_model.specs.DisputesRead.{by_identity}
use Rattle.table_model.specs.Tables.{RecordRow, Tables}
use Rattle.tree_tables.specs.Answers.{is_uncharged}
use Rattle.tree_tables.specs.Columns.{flag}
use Rattle.tree_tables.specs.Details.{is_reached}
use Rattle.tree_tables.specs.Stored.{IsAsRead, stored_entry}
use Rattle.tree_tables.specs.declared.detail_rows.DetailStart.{DetailStart}
use Rattle.tree_tables.specs.declared.detail_rows.DetailStart.TheVariants.{After, Day}
use Rattle.tree_tables.specs.declared.late_records.LateRecord.{LateRecord}
use Rattle.tree_tables.specs.declared.stored_record.StoredRecord.{StoredRecord}

-- ---- the records that are not charged

-- a record comes after the one that the walk has come to, by identity and name
abbrev pub comes_next : Option LateRecord → List ℕ × RecordRow → Bool
comes_next last entry =
    option_map_or (λ late. is_lt (by_identity (stored_entry late.stored) entry)) last true

-- one that is not charged is still to come
abbrev pub is_uncharged_left : Option LateRecord → List ℕ × RecordRow → Bool
is_uncharged_left last entry = is_uncharged entry && comes_next last entry

-- the first of these records (`IsNextUncharged` of Answers is about identities)
pub record IsNextUncharged (last : Option LateRecord) (tables : Tables)
    (entry : List ℕ × RecordRow) : Type 0 where
  pub there : get tables.records entry.0 ≡ Some entry.1
  pub comes : is_uncharged_left last entry ≡ true
  pub least : (other : List ℕ × RecordRow) → get tables.records other.0 ≡ Some other.1
      → is_uncharged_left last other ≡ true
      → is_lt (by_identity other entry) ≡ false

-- that one, if there is one
abbrev pub FindsUnchargedLeft : Option LateRecord → Tables → Option StoredRecord → Type 0
FindsUnchargedLeft last tables None =
    (entry : List ℕ × RecordRow) → get tables.records entry.0 ≡ Some entry.1
    → is_uncharged_left last entry ≡ false
FindsUnchargedLeft last tables (Some stored) = IsNextUncharged last tables (stored_entry stored)

-- the first columns of the marks of those that are still to come
abbrev pub mark_start : Option LateRecord → Row
mark_start None = Int (pos (flag false)) ∷ []
mark_start (Some late) =
    Int (pos (flag false)) ∷ Blob late.stored.identity.items
    ∷ Blob (late.stored.name ++ 0 ∷ []) ∷ []

-- a row of the tree of marks says this name, where its record is not charged
abbrev pub SaysUnchargedName : Row → Option (List ℕ) → Type 0
SaysUnchargedName row None = column row 0 ≡ Int (pos (flag true))
SaysUnchargedName row (Some name) =
    (column row 0 ≡ Int (pos (flag false))) × (column row 2 ≡ Blob name)

-- ---- the records that are counted

-- a record that is counted, with a detail from the start on
abbrev pub is_counted_from : DetailStart → Tables → List ℕ × RecordRow → Bool
is_counted_from start tables entry =
    contains_key tables.counted entry.0 && is_reached start (detail_shown entry)

-- the first of these, which was found by its detail
pub record IsNextCounted (start : DetailStart) (tables : Tables) (late : LateRecord) : Type 0 where
  pub there : IsAsRead late.stored tables
  pub detail : late.detail ≡ Some (detail_shown (stored_entry late.stored))
  pub comes : is_counted_from start tables (stored_entry late.stored) ≡ true
  pub least : (other : List ℕ × RecordRow) → get tables.records other.0 ≡ Some other.1
      → is_counted_from start tables other ≡ true
      → is_lt (by_detail (detail_shown other) (detail_shown (stored_entry late.stored))) ≡ false

-- that one, if there is one
abbrev pub FindsCounted : DetailStart → Tables → Option LateRecord → Type 0
FindsCounted start tables None =
    (entry : List ℕ × RecordRow) → get tables.records entry.0 ≡ Some entry.1
    → is_counted_from start tables entry ≡ false
FindsCounted start tables (Some late) = IsNextCounted start tables late

-- ---- the walk

-- where the details go on, if the walk has come to one
abbrev pub start_after : Option LateRecord → Option DetailStart
start_after last = option_and_then (λ late. option_map After late.detail) last

-- a record is still to come in the walk from the day on, after the last one or from its start on
abbrev pub is_left : ℤ → Option LateRecord → Tables → List ℕ × RecordRow → Bool
is_left first last tables entry =
    option_map_or (λ start. is_counted_from start tables entry) (start_after last)
    (is_uncharged_left last entry || is_counted_from (Day first) tables entry)

-- a record is met by its mark, and again by its detail
abbrev pub is_met_twice : ℤ → Tables → List ℕ × RecordRow → Bool
is_met_twice first tables entry =
    is_uncharged entry && is_counted_from (Day first) tables entry

-- The next record of the walk: it was to come, and is no more unless it is met twice; and the others
-- that were to come still are.
pub record IsNextLate (first : ℤ) (last : Option LateRecord) (tables : Tables) (late : LateRecord)
    : Type 0 where
  pub there : IsAsRead late.stored tables
  pub comes : is_left first last tables (stored_entry late.stored) ≡ true
  pub passed : is_met_twice first tables (stored_entry late.stored) ≡ false
      → is_left first (Some late) tables (stored_entry late.stored) ≡ false
  pub others : (other : List ℕ × RecordRow) → get tables.records other.0 ≡ Some other.1
      → same_bytes other.0 late.stored.name ≡ false
      → is_left first last tables other ≡ is_left first (Some late) tables other

-- that one; or none is to come
abbrev pub FindsLate : ℤ → Option LateRecord → Tables → Option LateRecord → Type 0
FindsLate first last tables None =
    (entry : List ℕ × RecordRow) → get tables.records entry.0 ≡ Some entry.1
    → is_left first last tables entry ≡ false
FindsLate first last tables (Some late) = IsNextLate first last tables late
