-- Which records a close posts: those that its period touches. The records of its lines are posted
-- first, and then those that its charge rows count, some of them at once.
use Rattle.std.specs.Prelude.{◌≡◌, ℕ, ℤ, true, false, ◌&&◌, Bool, List, length, map, Option, Some}
use Rattle.std.specs.Prelude.{None}
use Rattle.book_model.specs.Std.{contains_key, get, list_any, eq_by_cmp}
use Rattle.book_model.specs.Words.{is_after, by_bytes, comes_after}
use Rattle.book_model.specs.declared.detail.Detail.{Detail}
use Rattle.table_model.specs.Words.{FindsLeast, IsDetail, PostsTouched, post_by, RecordRow, Tables}
use Rattle.tree_tables.specs.Days.{NoneNext}
use Rattle.tree_tables.specs.declared.line_rows.StoredLine.{StoredLine}
use Rattle.table_ledger.specs.DetailReads.{seeks}
use Rattle.table_ledger.specs.declared.details.Sought.{Sought}

-- the names of the records of some lines
abbrev pub names_in : List StoredLine → List (List ℕ)
names_in lines = map (λ (line : StoredLine). line.name) lines

-- each record is posted by the day, but for those that are counted and dated after the last close
abbrev pub RestIsPosted : Option ℤ → ℤ → Tables → Type 0
RestIsPosted last day tables =
    (name : List ℕ) (row : RecordRow) → get tables.records name ≡ Some row
    → (is_after last row.priced.day && contains_key tables.counted name) ≡ false
    → post_by day row ≡ row

-- what a close rests on
pub record CanClose (period : ℕ) (last : Option ℤ) (tables : Tables) : Type 0 where
  pub none_next : NoneNext period tables
  pub touched : PostsTouched period last tables

-- the details of a period after one, or all
abbrev pub days_after : Option ℤ → ℤ → Option Detail → Sought
days_after last day passed =
    record { close = last; through = Some day; centre = None; last = passed }

-- a name is among some
abbrev pub is_among : List ℕ → List (List ℕ) → Bool
is_among name names = list_any (eq_by_cmp by_bytes name) names

-- The names are those of the details of a period after one, up to another; and where there are no
-- names, no such detail is left.
pub record Gathers (last : Option ℤ) (day : ℤ) (passed now : Option Detail) (names : List (List ℕ))
    (tables : Tables) : Type 0 where
  pub among : (detail : Detail) → IsDetail tables detail
      → seeks (days_after last day passed) detail ≡ true → comes_after now detail ≡ false
      → is_among detail.name names ≡ true
  pub ends : length names ≡ 0 → FindsLeast (seeks (days_after last day passed)) tables None
