-- Entries of the journal, one after the other: one row more.
use Rattle.std.proofs.Common.{◌≡◌, ◌∙◌, ◌+◌, ◌++◌, ◌∷◌, [], ℕ, List, ap, ap₂, arith, length, map, sym}
use Rattle.sqlite_value.specs.Order.{Row}
use Rattle.book_model.proofs.Std.{map-append}
use Rattle.table_model.specs.Tables.{JournalRow}
use Rattle.table_model.specs.Words.{under_numbers}
use Rattle.table_model.proofs.UnderNumbers.{one_more}
use Rattle.tree_tables.specs.JournalColumns.{journal_columns}
use Rattle.book_audit.specs.Journal.{entry_rows, kept_by_each, kept_in}

pub entries_pushed : (entries : List JournalRow) (entry : JournalRow) (count : ℕ) (row : Row)
    → row ≡ journal_columns (count + 1, entry) → count ≡ length entries
    → entry_rows entries ++ row ∷ [] ≡ entry_rows (entries ++ entry ∷ [])
entries_pushed entries entry count row is counted =
    ap (λ r. entry_rows entries ++ r ∷ []) is
    ∙ sym (ap (map journal_columns) (one_more 1 entries entry (count + 1) (omega (arith, counted)))
    ∙ map-append journal_columns (under_numbers 1 entries) ((count + 1, entry) ∷ []))

-- and what it says that it kept
pub kept_pushed : (due : List ℕ) (entries : List JournalRow) (entry : JournalRow) (kept : ℕ)
    → due ≡ kept_by_each entries → kept ≡ kept_in entry.act
    → due ++ kept ∷ [] ≡ kept_by_each (entries ++ entry ∷ [])
kept_pushed due entries entry kept are says =
    ap₂ (λ (all : List ℕ) (one : ℕ). all ++ one ∷ []) are says
    ∙ sym (map-append (λ (one : JournalRow). kept_in one.act) entries (entry ∷ []))
