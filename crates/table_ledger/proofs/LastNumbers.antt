-- The number of the last choice, of the last replaced tariff, of the last credit and of the last
-- entry: it is their count.
use Rattle.std.proofs.Common.{◌≡◌, ◌∙◌, ◌+◌, ℕ, List, None, ap, arith, length, map, nat_cmp, refl}
use Rattle.std.proofs.Common.{sym, unwrap_or}
use Rattle.book_model.proofs.Std.{from_entries, last_or, length-map}
use Rattle.book_model.specs.Words.{Book, Naming}
use Rattle.table_model.specs.JournalRows.{journal_rows}
use Rattle.table_model.specs.Words.{tables_of, under_numbers, IsReadable}
use Rattle.table_model.specs.TablesOf.{replaced_row}
use Rattle.table_model.proofs.ChoiceLemmas.{choices_follow}
use Rattle.table_model.proofs.ChoiceReading.{choices_count}
use Rattle.table_model.proofs.JournalChanges.{newest-is, rows-length}
use Rattle.table_model.proofs.UnderNumbers.{entries-numbers, last_number as last_of}
use Rattle.tree_tables.specs.Answers.{last_number}
use Rattle.table_ledger.specs.Entries.{NumbersEntries}

-- in the tables of a book it is the number of its choices,
pub last_counts : (naming : Naming) (book : Book) → IsReadable naming book
    → last_number (tables_of naming book).choices ≡ length book.rulings.choices
last_counts naming book whole =
    choices_follow.counted naming book whole ∙ choices_count naming book

-- of values under their numbers it is how many they are
counted : {V : Type 0} (values : List V)
    → last_number (from_entries {R = nat_cmp} (under_numbers 1 values)) ≡ length values
counted {V} values =
    let none_before : 0 + length values ≡ length values = omega arith in
    ap (λ es. unwrap_or (last_or None (map (λ (e : ℕ × V). e.0) es)) 0) (entries-numbers values)
    ∙ last_of 0 None values refl ∙ none_before

-- so it is that of the tariffs that were replaced, and of the credits
pub last_replaced : (naming : Naming) (book : Book)
    → last_number (tables_of naming book).replaced ≡ length book.rulings.replaced
last_replaced naming book =
    counted (map replaced_row book.rulings.replaced)
    ∙ length-map book.rulings.replaced replaced_row

pub last_credit : (naming : Naming) (book : Book)
    → last_number (tables_of naming book).credits ≡ length book.rulings.credits
last_credit naming book = counted book.rulings.credits

-- and that of the entries
pub last_entered : (naming : Naming) (book : Book)
    → last_number (tables_of naming book).journal ≡ length book.journal
last_entered naming book = counted (journal_rows book.journal) ∙ rows-length book.journal

pub numbers_entries : (naming : Naming) (book : Book) → NumbersEntries (tables_of naming book)
numbers_entries naming book = last_entered naming book ∙ sym (newest-is book.journal)
