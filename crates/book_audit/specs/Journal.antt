-- The entries of the journal, one after the other.
use Rattle.std.specs.Prelude.{◌≡◌, ◌+◌, ◌∷◌, [], ℕ, true, List, Option, None, Some, length, map}
use Rattle.sqlite_trees.specs.Tree.{Trees}
use Rattle.sqlite_value.specs.Order.{Row, column}
use Rattle.sqlite_value.specs.declared.value.Value.TheVariants.{Int, Null}
use Rattle.book_model.specs.Std.{AllByRecursion}
use Rattle.book_model.specs.Journal.{AdoptionOf, ChoiceOf, CloseOf, CreditOf, Place, ReplacementOf}
use Rattle.book_model.specs.Journal.{TariffOf}
use Rattle.table_model.specs.Tables.{ImportRow, JournalRow, RowAct, RulingRow}
use Rattle.table_model.specs.Words.{under_numbers}
use Rattle.tree_tables.specs.JournalColumns.{entry_stored, journal_columns, place_number}
use Rattle.tree_tables.specs.declared.entry_rows.StoredAct.{StoredAct}
use Rattle.tree_tables.specs.declared.entry_rows.StoredAct.TheVariants as stored
use Rattle.book_audit.specs.Rules.{is_adopted}
use Rattle.book_audit.specs.Trees.{HasKey, tree_number}
use Rattle.book_audit.specs.declared.finding.Tree.{Tree}
use Rattle.book_audit.specs.declared.finding.Tree.TheVariants.{Choices, Closes, Credits, Replaced}
use Rattle.book_audit.specs.declared.finding.Tree.TheVariants.{Tariffs}
use Rattle.book_audit.specs.declared.identity_rule.IdentityRule.{IdentityRule}
use Rattle.book_audit.specs.declared.journal.NumberedEntry.{NumberedEntry}

-- a row has the columns of what it is about, and no others
abbrev pub IsWhole : Row → StoredAct → Type 0
IsWhole row (stored.Ruling place) = length row ≡ 7
IsWhole row (stored.Import reading ending kept) =
    (length row ≡ 20) × (column row 6 ≡ Null)

-- an entry as its row says
abbrev pub numbered : NumberedEntry → ℕ × JournalRow
numbered one = (one.number, entry_stored one.entry)

-- the place of a ruling that an entry is of
abbrev pub ruled_in : RowAct → Option Place
ruled_in (RulingRow place) = Some place
ruled_in (ImportRow reading ending kept) = None

-- the tree that has the row of a ruling, by its place; the adoption has none of its own
abbrev pub tree_of : Place → Option Tree
tree_of (TariffOf day) = Some Tariffs
tree_of (CloseOf period) = Some Closes
tree_of (ChoiceOf number) = Some Choices
tree_of AdoptionOf = None
tree_of (ReplacementOf number) = Some Replaced
tree_of (CreditOf number) = Some Credits

-- a row of its tree has the number of a ruling; or the rule was adopted
abbrev pub IsIn : Trees → IdentityRule → Place → Option Tree → Type 0
IsIn trees rule place (Some tree) =
    HasKey (Int (place_number place) ∷ []) (trees (tree_number tree))
IsIn trees rule place None = is_adopted rule ≡ true

-- so a ruling is there, if there is one to look for
abbrev pub IsThere : Trees → IdentityRule → Option Place → Type 0
IsThere trees rule (Some place) = IsIn trees rule place (tree_of place)
IsThere trees rule None = Unit {0}

-- the ruling that an entry is of is there
abbrev pub IsPlaced : Trees → IdentityRule → RowAct → Type 0
IsPlaced trees rule act = IsThere trees rule (ruled_in act)

-- how many records an entry says that it kept, and one of a ruling none
abbrev pub kept_in : RowAct → ℕ
kept_in (RulingRow place) = 0
kept_in (ImportRow reading ending kept) = kept

-- the rows of entries under the numbers from 1 on
abbrev pub entry_rows : List JournalRow → List Row
entry_rows entries = map journal_columns (under_numbers 1 entries)

-- a row is that of the next entry after so many, which kept so many records
pub record IsEntryRow (trees : Trees) (rule : IdentityRule) (before : ℕ) (row : Row) (kept : ℕ)
    : Type 0 where
  pub entry : JournalRow
  pub is : row ≡ journal_columns (before + 1, entry)
  pub placed : IsPlaced trees rule entry.act
  pub says : kept ≡ kept_in entry.act

-- how many records each of some entries kept
abbrev pub kept_by_each : List JournalRow → List ℕ
kept_by_each entries = map (λ entry. kept_in entry.act) entries

-- All rows are those of entries that kept so many records each, and the rulings of the others are
-- there.
pub record AreEntered (trees : Trees) (rule : IdentityRule) (kept : List ℕ) : Type 0 where
  pub entries : List JournalRow
  pub are : trees 13 ≡ entry_rows entries
  pub placed : AllByRecursion (λ entry. IsPlaced trees rule entry.act) entries
  pub says : kept ≡ kept_by_each entries
